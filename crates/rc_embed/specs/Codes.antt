-- What the functions over frames answer: 0, or the number of a fault.
use Rattle.std.specs.Prelude.{ℕ}

-- it is done
abbrev pub done : ℕ
done = 0

-- memory was wanted
abbrev pub memory : ℕ
memory = 1

-- something stood in the way of a stripe
abbrev pub busy : ℕ
busy = 2

-- the session has made as many calls as its store lets it
abbrev pub spent : ℕ
spent = 3

-- no operation has the number, or the name
abbrev pub operation : ℕ
operation = 4

-- the operation takes another number of values
abbrev pub value_count : ℕ
value_count = 5

-- a call is prepared, or a group is open
abbrev pub prepared : ℕ
prepared = 6

-- there is nothing to commit or to cancel
abbrev pub not_prepared : ℕ
not_prepared = 7

-- the reply has no such row, or the frame no room for it
abbrev pub no_row : ℕ
no_row = 8

-- the options are out of their ranges
abbrev pub options : ℕ
options = 9

-- one of the texts is longer than 2^24 bytes
abbrev pub too_long : ℕ
too_long = 10

-- the text breaks a line rule
abbrev pub line : ℕ
line = 11

-- the specification breaks a rule of acceptance
abbrev pub rule : ℕ
rule = 12

-- no pass is left
abbrev pub none_left : ℕ
none_left = 13

-- the session has seen less than what was to be learned
abbrev pub unseen : ℕ
unseen = 14

-- no call, or more than there may be in a group
abbrev pub count : ℕ
count = 15

-- no group is open
abbrev pub not_open : ℕ
not_open = 16

-- what an open group declared doesn't suffice for the call
abbrev pub uncovered : ℕ
uncovered = 17

-- an open group had no call to commit, and is over
abbrev pub no_call : ℕ
no_call = 18

-- the text of the plans breaks a rule of their lines
abbrev pub plan_line : ℕ
plan_line = 19

-- a plan that is written breaks a rule of plans
abbrev pub plan : ℕ
plan = 20

-- the text of the shapes breaks a line rule
abbrev pub shape_line : ℕ
shape_line = 21

-- fewer sessions are asked for than the closed store had
abbrev pub sessions : ℕ
sessions = 22

-- a session of the closed store had made more calls than the limit
abbrev pub limit : ℕ
limit = 23

-- the texts don't give the closed store's specification, nor that with further operations behind its own
abbrev pub other : ℕ
other = 24

-- some session of the store isn't given back
abbrev pub outside : ℕ
outside = 25

-- all are, and somebody holds yet what the store shared with them
abbrev pub shared : ℕ
shared = 26
