-- Arithmetic of f32, which is IEEE 754's binary32: each operation rounds its exact result once, to the nearest value.
-- There is one NaN, so an equation of values compares a NaN with a NaN; the two zeros differ.
use Rattle.std.specs.Prelude.{not, T, from_bits, is_nan, Float}
use Rattle.std.specs.Float.{binary32}
use Rattle.std.specs.Float.Ieee.{add, sub, mul, div, le}
use Rattle.std.specs.Float as Floats

abbrev pub plus : Float → Float → Float
plus a b = add binary32 a b

abbrev pub minus : Float → Float → Float
minus a b = sub binary32 a b

abbrev pub times : Float → Float → Float
times a b = mul binary32 a b

abbrev pub over : Float → Float → Float
over a b = div binary32 a b

abbrev pub root : Float → Float
root a = Floats.sqrt binary32 a

-- ---- constants, by their bits
abbrev pub zero : Float
zero = from_bits binary32 0

abbrev pub half : Float
half = from_bits binary32 0x3f00_0000

abbrev pub one : Float
one = from_bits binary32 0x3f80_0000

abbrev pub two : Float
two = from_bits binary32 0x4000_0000

-- the largest finite value
abbrev pub largest : Float
largest = from_bits binary32 0x7f7f_ffff

-- ---- what a float may be: an infinity is a number, a NaN is none
abbrev pub Number : Float → Type 0
Number x = T (not (is_nan x))

-- a number that is not below zero, as a NaN compares false
abbrev pub NotBelowZero : Float → Type 0
NotBelowZero x = T (le zero x)
