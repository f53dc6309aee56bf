-- The digits of a number read one by one, and the sign before them.
use Rattle.std.proofs.Common.{◌≡◌, ℕ, ◌+◌, ◌-◌, ◌*◌, ◌^◌, ◌<◌, ◌≤◌, true, false, ◌&&◌, ltb, leb, List, [], ◌∷◌, ◌++◌, length, get_or, take, drop, ℤ, pos, neg_ℤ, Some, None, Ok, Err, Result, sym, refl, ap, ◌∙◌, pow-suc, add-one, arith}
use native.Mathlib.Nat.{pow-le-pow_right}
use Rattle.std.specs.Option.{option_map}
use Rattle.std.specs.Char.{is_ascii_digit}
use Rattle.std.specs.Str.{all_ascii_digits}
use Rattle.std.proofs.lemmas.List.{at_drop_more, at_drop_all, get_or-take}
use Rattle.std.proofs.lemmas.Bool.{cond-true, cond-false, and_from, and_left, and_right, and_parts, lt-ltb, le-ltb, le-leb, lt-leb, leb-true, eq-eqb, ne_eqb}
use Rattle.setup.specs.Grammar.{read_on, natural, whole_number, whole_numbers, count, nth, stated}
use Rattle.setup.specs.declared.Keyword.{Keyword}
use Rattle.setup.specs.declared.Keyword.TheVariants.{Room, Mark, Wipe, Sight}

-- the first i bytes of ds are digits and write n
pub record Read (ds : List ℕ) (i n : ℕ) : Type 0 where
  pub digits : all_ascii_digits (drop i ds) ≡ all_ascii_digits ds
  pub value : read_on n (drop i ds) ≡ read_on 0 ds
  pub small : n < 10 ^ i

module _ (ds : List ℕ) (i n : ℕ) (so_far : Read ds i n) where
  pub read_more : (d : ℕ) → i < length ds → is_ascii_digit (get_or ds i 0) ≡ true → d ≡ get_or ds i 0 - 48 → Read ds (i + 1) (n * 10 + d)
  read_more d h q e =
      let c : ℕ = get_or ds i 0 in
      let rest : List ℕ = drop (i + 1) ds in
      let all : all_ascii_digits (drop i ds) ≡ (is_ascii_digit c && all_ascii_digits rest) = at_drop_more all_ascii_digits ds i 0 h in
      let on : read_on n (drop i ds) ≡ read_on (n * 10 + (c - 48)) rest = at_drop_more (read_on n) ds i 0 h in
      let top : 10 ^ (i + 1) ≡ 10 ^ i * 10 = ap (λ k. 10 ^ k) (add-one i) ∙ pow-suc 10 i in
      let nine : c ≤ 57 = leb-true c 57 (and_parts (leb 48 c) (leb c 57) q).1 in
      record {
        digits = sym (all ∙ ap (λ b. b && all_ascii_digits rest) q) ∙ so_far.digits;
        value = ap (λ k. read_on (n * 10 + k) rest) e ∙ sym on ∙ so_far.value;
        small = omega (arith, so_far.small);
      }

  pub read_all : length ds ≤ i → (all_ascii_digits ds ≡ true) × (n ≡ read_on 0 ds)
  read_all h = (sym so_far.digits ∙ at_drop_all all_ascii_digits ds i h, sym (at_drop_all (read_on n) ds i h) ∙ so_far.value)

  pub read_no : i < length ds → is_ascii_digit (get_or ds i 0) ≡ false → all_ascii_digits ds ≡ false
  read_no h q =
      let all : all_ascii_digits (drop i ds) ≡ (is_ascii_digit (get_or ds i 0) && all_ascii_digits (drop (i + 1) ds)) = at_drop_more all_ascii_digits ds i 0 h in
      sym so_far.digits ∙ all ∙ and_left _ _ q

  pub read_bound : (k : ℕ) → i ≤ k → n < 10 ^ k
  read_bound k h =
      let ten : 0 < 10 = omega arith in
      omega (arith, so_far.small, pow-le-pow_right ten h)

  -- so that one more digit fits
  pub read_short : i ≤ 8 → n < 10 ^ 8
  read_short h = read_bound 8 h

pub natural_some : (ds : List ℕ) → all_ascii_digits ds ≡ true → 0 < length ds → length ds ≤ 9 → natural ds ≡ Some (read_on 0 ds)
unfolding natural
natural_some ds q some short = cond-true _ _ _ (and_from _ _ q (and_from _ _ (lt-ltb _ _ some) (le-leb _ _ short)))

pub natural_letters : (ds : List ℕ) → all_ascii_digits ds ≡ false → natural ds ≡ None
unfolding natural
natural_letters ds q = cond-false _ _ _ (and_left _ _ q)

pub natural_empty : (ds : List ℕ) → length ds ≡ 0 → natural ds ≡ None
unfolding natural
natural_empty ds e = cond-false _ _ _ (and_right (all_ascii_digits ds) _ (and_left _ _ (le-ltb 0 (length ds) (omega arith))))

pub natural_long : (ds : List ℕ) → 9 < length ds → natural ds ≡ None
unfolding natural
natural_long ds h = cond-false _ _ _ (and_right (all_ascii_digits ds) _ (and_right (ltb 0 (length ds)) _ (lt-leb _ _ h)))

pub whole_number-minus : (w : List ℕ) → 0 < length w → get_or w 0 0 ≡ 45 → whole_number w ≡ option_map (λ n. neg_ℤ (pos n)) (natural (drop 1 w))
unfolding whole_number
whole_number-minus [] h e = absurd (omega arith)
whole_number-minus (c ∷ cs) h e = cond-true _ _ _ (eq-eqb c 45 e)

pub whole_number-plain : (w : List ℕ) → (0 < length w → get_or w 0 0 ≡ 45 → ⊥) → whole_number w ≡ option_map pos (natural w)
unfolding whole_number natural
whole_number-plain [] f = refl
whole_number-plain (c ∷ cs) f = cond-false _ _ _ (ne_eqb c 45 (f (omega arith)))

-- numbers that stand before those that are still to be read
abbrev pub after : List ℤ → Result (List ℤ) ℕ → Result (List ℤ) ℕ
after zs (Ok ys) = Ok (zs ++ ys)
after zs (Err place) = Err place

-- of all words, the first n write the first n of the m numbers zs, and the words ws are left
pub record Gathered (m : ℕ) (all : List (List ℕ)) (n : ℕ) (zs : List ℤ) (ws : List (List ℕ)) : Type 0 where
  pub room : length zs ≡ m
  pub left : n + length ws ≡ length all
  pub read : whole_numbers 1 all ≡ after (take n zs) (whole_numbers (n + 1) ws)

-- a statement reads the numbers of its keyword alone
nth_take : (zs : List ℤ) (n i : ℕ) → i < n → nth (take n zs) i ≡ nth zs i
nth_take zs n i h = get_or-take n zs i (pos 0) h

pub stated_take : (k : Keyword) (n : ℕ) (zs : List ℤ) → n ≡ count k → stated k (take n zs) ≡ stated k zs
stated_take Room n zs e = simp (nth_take zs n 0 (omega arith), nth_take zs n 1 (omega arith), nth_take zs n 2 (omega arith), nth_take zs n 3 (omega arith), nth_take zs n 4 (omega arith)) refl
stated_take Mark n zs e = simp (nth_take zs n 0 (omega arith), nth_take zs n 1 (omega arith), nth_take zs n 2 (omega arith)) refl
stated_take Wipe n zs e = simp (nth_take zs n 0 (omega arith), nth_take zs n 1 (omega arith), nth_take zs n 2 (omega arith)) refl
stated_take Sight n zs e =
    simp (nth_take zs n 0 (omega arith), nth_take zs n 1 (omega arith), nth_take zs n 2 (omega arith), nth_take zs n 3 (omega arith), nth_take zs n 4 (omega arith), nth_take zs n 5 (omega arith)) refl
