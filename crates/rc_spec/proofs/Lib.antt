mod ContentExample
mod Imports
