-- The grammar of a setup file: its lines, the words of a line, and what a line says.
use Rattle.std.specs.Prelude.{ℕ, ◌+◌, ◌-◌, ◌*◌, Bool, true, false, cond, not, ◌&&◌, ◌||◌, List, [], ◌∷◌, length, ℤ, pos, neg_ℤ, Some, None, Ok, Err, codes, filter, Option, Result, ◌==◌, nat_le, nat_lt, slice_index_or}
use Rattle.std.specs.Option.{option_map}
use Rattle.std.specs.Result.{result_map_both}
use Rattle.std.specs.Str.{all_ascii_digits, bytes_eq}
use Rattle.math.specs.declared.IVector.{IVector}
use Rattle.setup.specs.declared.Statement.{Statement}
use Rattle.setup.specs.declared.Statement.TheVariants as statement
use Rattle.setup.specs.declared.Keyword.{Keyword}
use Rattle.setup.specs.declared.Keyword.TheVariants.{Room, Mark, Wipe, Sight}
use Rattle.setup.specs.declared.Expected.{Expected}
use Rattle.setup.specs.declared.Expected.TheVariants as expected

-- ---- lines and words

-- c before the first piece
abbrev pub before : ℕ → List (List ℕ) → List (List ℕ)
before c [] = (c ∷ []) ∷ []
before c (w ∷ ws) = (c ∷ w) ∷ ws

-- the pieces of a text: each ends at a byte that passes p, or at the end of the text
abbrev pub pieces : (ℕ → Bool) → List ℕ → List (List ℕ)
pieces p [] = []
pieces p (c ∷ cs) = cond (p c) ([] ∷ pieces p cs) (before c (pieces p cs))

-- what does not pass p
abbrev pub other : (ℕ → Bool) → ℕ → Bool
other p c = not (p c)

abbrev pub newline : ℕ → Bool
newline c = c == 10

-- a space, a tab or a carriage return
abbrev pub blank : ℕ → Bool
blank c = c == 32 || (c == 9 || c == 13)

abbrev pub filled : List ℕ → Bool
filled [] = false
filled (c ∷ cs) = true

-- a newline ends its line, so a text that ends with one has no further empty line after it
unfoldable pub lines : List ℕ → List (List ℕ)
lines text = pieces newline text

-- what stands between blanks
unfoldable pub words : List ℕ → List (List ℕ)
words line = filter filled (pieces blank line)

abbrev pub hash : ℕ → Bool
hash c = c == 35

-- the bytes before a '#'
abbrev pub uncommented : List ℕ → List ℕ
uncommented [] = []
uncommented (c ∷ cs) = cond (hash c) [] (c ∷ uncommented cs)

-- ---- numbers

-- the number that digits write, after the digits of n
abbrev pub read_on : ℕ → List ℕ → ℕ
read_on n [] = n
read_on n (c ∷ cs) = read_on (n * 10 + (c - 48)) cs

-- one to nine digits
unfoldable pub natural : List ℕ → Option ℕ
natural ds = cond (all_ascii_digits ds && (nat_lt 0 (length ds) && nat_le (length ds) 9)) (Some (read_on 0 ds)) None

-- with a '-' before the digits, or none
unfoldable pub whole_number : List ℕ → Option ℤ
whole_number [] = None
whole_number (c ∷ cs) = cond (c == 45) (option_map (λ n. neg_ℤ (pos n)) (natural cs)) (option_map pos (natural (c ∷ cs)))

-- what a word writes, before what the later words write: the first word that writes no number is the one that counts
abbrev pub put : Option ℤ → Result (List ℤ) ℕ → ℕ → Result (List ℤ) ℕ
put None read place = Err place
put (Some z) (Ok zs) place = Ok (z ∷ zs)
put (Some z) (Err later) place = Err later

-- the numbers that the words write, or the place of the first word that writes none, counted from the given place on
abbrev pub whole_numbers : ℕ → List (List ℕ) → Result (List ℤ) ℕ
whole_numbers place [] = Ok []
whole_numbers place (w ∷ ws) = put (whole_number w) (whole_numbers (place + 1) ws) place

-- ---- statements

-- how many numbers follow the keyword
abbrev pub count : Keyword → ℕ
count Room = 5
count Mark = 3
count Wipe = 3
count Sight = 6

abbrev pub name : Keyword → List ℕ
name Room = codes "room"
name Mark = codes "mark"
name Wipe = codes "wipe"
name Sight = codes "sight"

unfoldable pub keyword_of : List ℕ → Option Keyword
keyword_of w =
    cond (bytes_eq w (name Room)) (Some Room)
    (cond (bytes_eq w (name Mark)) (Some Mark)
    (cond (bytes_eq w (name Wipe)) (Some Wipe)
    (cond (bytes_eq w (name Sight)) (Some Sight) None)))

abbrev pub nth : List ℤ → ℕ → ℤ
nth zs i = slice_index_or zs i (pos 0)

-- the three numbers from place i on
abbrev pub triple : List ℤ → ℕ → IVector
triple zs i = record { x = nth zs i; y = nth zs (i + 1); z = nth zs (i + 2) }

-- the statement with these numbers
abbrev pub stated : Keyword → List ℤ → Statement
stated Room zs = statement.Room (nth zs 0) (triple zs 1) (nth zs 4)
stated Mark zs = statement.Mark (triple zs 0)
stated Wipe zs = statement.Wipe (triple zs 0)
stated Sight zs = statement.Sight (triple zs 0) (triple zs 3)

-- the same, or what the word at that place should have been
abbrev pub placed : Result (List ℤ) ℕ → Result (List ℤ) Expected
placed (Ok zs) = Ok zs
placed (Err place) = Err (expected.WholeNumber place)

abbrev pub said : Keyword → Result (List ℤ) ℕ → Result Statement Expected
said k (Ok zs) = Ok (stated k zs)
said k (Err place) = Err (expected.WholeNumber place)

-- first the keyword, then the count of the words after it, then each of them
abbrev pub meaning_after : Option Keyword → List (List ℕ) → Result (Option Statement) Expected
meaning_after None ws = Err expected.Keyword
meaning_after (Some k) ws = cond (length ws == count k) (result_map_both Some (λ e. e) (said k (whole_numbers 1 ws))) (Err (expected.Numbers k))

-- a line with no word says nothing
abbrev pub meaning : List (List ℕ) → Result (Option Statement) Expected
meaning [] = Ok None
meaning (w ∷ ws) = meaning_after (keyword_of w) ws

abbrev pub line_meaning : List ℕ → Result (Option Statement) Expected
line_meaning line = meaning (words (uncommented line))
