use Rattle.rc_place.proofs.ops.keeps_o.Goals as goal

pub returns : goal.returns
returns c = (
  λ h. record {
    o1 = c.keeps_o1.ensures.0 c.if-not-keeps_o1.false;
    o2 = c.keeps_o2.ensures.0 c.if-not-keeps_o2.false;
    o3 = c.keeps_o3.ensures.0 h;
  },
  λ keeps. c.keeps_o3.ensures.1 keeps.o3,
)
