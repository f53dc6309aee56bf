-- What is written of a statement is read back.
use Rattle.std.proofs.Common.{◌≡◌, ℕ, suc, ◌+◌, ◌^◌, ◌<◌, Bool, true, false, ◌&&◌, leb, List, [], ◌∷◌, ◌++◌, map, length, get_or, ℤ, pos, negsuc, neg_ℤ, Some, Ok, decimal, refl, ap, ◌∙◌, arith}
use Rattle.std.specs.Option.{option_map}
use Rattle.std.specs.Result.{result_map_both}
use Rattle.std.specs.Fmt.{signed_decimal}
use Rattle.std.specs.List.{prefix_len, AllByRecursion}
use Rattle.std.specs.Str.{all_ascii_digits}
use Rattle.std.proofs.lemmas.Fmt.{digits_decimal, digits_value-decimal, decimal_nonempty, length-decimal-le}
use Rattle.std.proofs.lemmas.List.{take_at, drop_at}
use Rattle.std.proofs.lemmas.Str.Parse.{IsNumeralModel, FoldsDigits, numerals_by_fold, tells_all_ascii_digits}
use Rattle.std.proofs.lemmas.Bool.{and_parts, and_from, not-true, not_from_false, or_from, ne_eqb, leb-true, cond-true, cond-false}
use Rattle.setup.specs.declared.Keyword.{Keyword}
use Rattle.setup.specs.declared.Keyword.TheVariants.{Room, Mark, Wipe, Sight}
use Rattle.setup.specs.declared.Statement.{Statement}
use Rattle.setup.specs.declared.Statement.TheVariants as statement
use Rattle.setup.specs.Grammar.{other, blank, hash, words, uncommented, read_on, natural, whole_number, whole_numbers, put, keyword_of, name, stated, said, meaning, meaning_after, line_meaning}
use Rattle.setup.specs.Texts.{keyword, numbers, spaced, written, Short}
use Rattle.setup.proofs.Numbers.{natural_some, whole_number-minus, whole_number-plain}
use Rattle.setup.proofs.FirstWord.{words_after_blank, words_first}

-- ---- a number

folds : FoldsDigits read_on
folds = record { empty = λ n. refl; more = λ n c cs h. refl }

own : IsNumeralModel (λ ds. all_ascii_digits ds ≡ true) (read_on 0)
own = numerals_by_fold _ tells_all_ascii_digits read_on folds

natural_decimal : (n : ℕ) → n < 10 ^ 9 → natural (decimal n) ≡ Some n
natural_decimal n h =
    let fits : n < 2 ^ 64 = omega arith in
    natural_some (decimal n) (digits_decimal own n fits) (decimal_nonempty n fits) (length-decimal-le 9 n (omega arith) h fits) ∙ ap Some (digits_value-decimal own n fits)

digits_no_minus : (ds : List ℕ) → all_ascii_digits ds ≡ true → 0 < length ds → get_or ds 0 0 ≡ 45 → ⊥
digits_no_minus [] q h e = omega arith
digits_no_minus (c ∷ cs) q h e =
    let digit = (and_parts (leb 48 c) (leb c 57) (and_parts _ (all_ascii_digits cs) q).0).0 in
    omega (arith, leb-true 48 c digit)

whole_number-signed : (z : ℤ) → Short z → whole_number (signed_decimal z) ≡ Some z
whole_number-signed (pos n) h =
    whole_number-plain (decimal n) (digits_no_minus (decimal n) (digits_decimal own n (omega arith))) ∙ ap (option_map pos) (natural_decimal n h)
whole_number-signed (negsuc n) h =
    whole_number-minus (45 ∷ decimal (suc n)) (omega arith) refl ∙ ap (option_map (λ k. neg_ℤ (pos k))) (natural_decimal (suc n) h)

whole_numbers-signed : (zs : List ℤ) (place : ℕ) → AllByRecursion Short zs → whole_numbers place (map signed_decimal zs) ≡ Ok zs
whole_numbers-signed [] place h = refl
whole_numbers-signed (z ∷ zs) place h =
    ap (λ o. put o (whole_numbers (place + 1) (map signed_decimal zs)) place) (whole_number-signed z h.0)
    ∙ ap (λ read. put (Some z) read place) (whole_numbers-signed zs (place + 1) h.1)

-- ---- words with neither a blank nor a '#'

abbrev plain : ℕ → Bool
plain c = other blank c && other hash c

abbrev solid : List ℕ → Bool
solid [] = true
solid (c ∷ cs) = plain c && solid cs

solid_digits : (ds : List ℕ) → all_ascii_digits ds ≡ true → solid ds ≡ true
solid_digits [] q = refl
solid_digits (c ∷ cs) q =
    let parts = and_parts (leb 48 c && leb c 57) (all_ascii_digits cs) q in
    let low = leb-true 48 c (and_parts (leb 48 c) (leb c 57) parts.0).0 in
    let dark : other blank c ≡ true = not_from_false _ (or_from _ _ (ne_eqb c 32 (λ e. omega arith)) (or_from _ _ (ne_eqb c 9 (λ e. omega arith)) (ne_eqb c 13 (λ e. omega arith)))) in
    let clear : other hash c ≡ true = not_from_false _ (ne_eqb c 35 (λ e. omega arith)) in
    and_from _ _ (and_from _ _ dark clear) (solid_digits cs parts.1)

solid_signed : (z : ℤ) → Short z → solid (signed_decimal z) ≡ true
solid_signed (pos n) h = solid_digits (decimal n) (digits_decimal own n (omega arith))
solid_signed (negsuc n) h = solid_digits (decimal (suc n)) (digits_decimal own (suc n) (omega arith))

signed_some : (z : ℤ) → Short z → 0 < length (signed_decimal z)
signed_some (pos n) h = decimal_nonempty n (omega arith)
signed_some (negsuc n) h = omega arith

uncommented_solid : (w rest : List ℕ) → solid w ≡ true → uncommented (w ++ rest) ≡ w ++ uncommented rest
uncommented_solid [] rest q = refl
uncommented_solid (c ∷ w) rest q =
    let parts = and_parts (plain c) (solid w) q in
    let clear : hash c ≡ false = not-true (hash c) (and_parts (other blank c) (other hash c) parts.0).1 in
    cond-false (hash c) _ _ clear ∙ ap (λ l. c ∷ l) (uncommented_solid w rest parts.1)

leading_solid : (w rest : List ℕ) → solid w ≡ true → prefix_len (other blank) (w ++ rest) ≡ length w + prefix_len (other blank) rest
leading_solid [] rest q = omega arith
leading_solid (c ∷ w) rest q =
    let parts = and_parts (plain c) (solid w) q in
    let dark : other blank c ≡ true = (and_parts (other blank c) (other hash c) parts.0).0 in
    let more : prefix_len (other blank) (c ∷ (w ++ rest)) ≡ 1 + prefix_len (other blank) (w ++ rest) = cond-true (other blank c) _ _ dark in
    omega (arith, leading_solid w rest parts.1)

words_solid : (w rest : List ℕ) → solid w ≡ true → 0 < length w → prefix_len (other blank) rest ≡ 0 → words (w ++ rest) ≡ w ∷ words rest
words_solid w rest q some ends =
    let long : length w ≡ prefix_len (other blank) (w ++ rest) = omega (arith, leading_solid w rest q) in
    words_first (w ++ rest) (length w) long some ∙ rw (take_at w rest (length w) refl, drop_at w rest (length w) refl)

-- ---- a line

spaced_ends : (zs : List ℤ) → prefix_len (other blank) (spaced zs) ≡ 0
spaced_ends [] = refl
spaced_ends (z ∷ zs) = refl

uncommented_spaced : (zs : List ℤ) → AllByRecursion Short zs → uncommented (spaced zs) ≡ spaced zs
uncommented_spaced [] h = refl
uncommented_spaced (z ∷ zs) h =
    ap (λ l. 32 ∷ l) (uncommented_solid (signed_decimal z) (spaced zs) (solid_signed z h.0) ∙ ap (λ l. signed_decimal z ++ l) (uncommented_spaced zs h.1))

words_spaced : (zs : List ℤ) → AllByRecursion Short zs → words (spaced zs) ≡ map signed_decimal zs
unfolding words
words_spaced [] h = refl
words_spaced (z ∷ zs) h =
    words_after_blank 32 (signed_decimal z ++ spaced zs) refl
    ∙ words_solid (signed_decimal z) (spaced zs) (solid_signed z h.0) (signed_some z h.0) (spaced_ends zs)
    ∙ ap (λ ws. signed_decimal z ∷ ws) (words_spaced zs h.1)

solid_name : (k : Keyword) → solid (name k) ≡ true
solid_name Room = refl
solid_name Mark = refl
solid_name Wipe = refl
solid_name Sight = refl

name_some : (k : Keyword) → 0 < length (name k)
name_some Room = omega arith
name_some Mark = omega arith
name_some Wipe = omega arith
name_some Sight = omega arith

keyword_of-name : (k : Keyword) → keyword_of (name k) ≡ Some k
unfolding keyword_of
keyword_of-name Room = refl
keyword_of-name Mark = refl
keyword_of-name Wipe = refl
keyword_of-name Sight = refl

words_written : (k : Keyword) (zs : List ℤ) → AllByRecursion Short zs → words (uncommented (name k ++ spaced zs)) ≡ name k ∷ map signed_decimal zs
words_written k zs h =
    ap words (uncommented_solid (name k) (spaced zs) (solid_name k) ∙ ap (λ l. name k ++ l) (uncommented_spaced zs h))
    ∙ words_solid (name k) (spaced zs) (solid_name k) (name_some k) (spaced_ends zs)
    ∙ ap (λ ws. name k ∷ ws) (words_spaced zs h)

counted : (s : Statement) → meaning_after (Some (keyword s)) (map signed_decimal (numbers s)) ≡ result_map_both Some (λ e. e) (said (keyword s) (whole_numbers 1 (map signed_decimal (numbers s))))
counted (statement.Room e k i) = refl
counted (statement.Mark c) = refl
counted (statement.Wipe c) = refl
counted (statement.Sight c t) = refl

stated_numbers : (s : Statement) → stated (keyword s) (numbers s) ≡ s
stated_numbers (statement.Room e k i) = refl
stated_numbers (statement.Mark c) = refl
stated_numbers (statement.Wipe c) = refl
stated_numbers (statement.Sight c t) = refl

pub reads_back : (s : Statement) → AllByRecursion Short (numbers s) → line_meaning (written s) ≡ Ok (Some s)
reads_back s h =
    ap meaning (words_written (keyword s) (numbers s) h)
    ∙ ap (λ o. meaning_after o (map signed_decimal (numbers s))) (keyword_of-name (keyword s))
    ∙ counted s
    ∙ ap (λ read. result_map_both Some (λ e. e) (said (keyword s) read)) (whole_numbers-signed (numbers s) 1 h)
    ∙ ap (λ t. Ok (Some t)) (stated_numbers s)
