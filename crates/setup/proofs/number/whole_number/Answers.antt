use Rattle.std.proofs.Common.{◌≡◌, drop, pos, ◌-ℤ◌, neg_ℤ, Some, sym, ap, ◌∙◌, arith, rules, w32, to_z, of_z}
use Rattle.std.specs.Option.{option_map}
use Rattle.std.proofs.lemmas.List.{take_rest}
use Rattle.std.proofs.lemmas.Int.{ints}
use Rattle.setup.specs.Grammar.{natural, whole_number}
use Rattle.setup.proofs.Numbers.{whole_number-minus, whole_number-plain}
use Rattle.setup.proofs.number.whole_number.Goals as goal
use Rattle.setup.proofs.number.whole_number.Goals.{In-45, In_default, in_default-via-then-word-lt1, in_default-via-else-word-lt1+in_default-1}

minus : (c : In-45) → whole_number c.args.word.now ≡ option_map (λ n. neg_ℤ (pos n)) (natural (drop 1 c.args.word.now))
minus c = whole_number-minus c.args.word.now (omega arith) (omega arith)

plain : (c : In_default) → whole_number c.args.word.now ≡ option_map pos (natural c.args.word.now)
plain c = whole_number-plain c.args.word.now
    (elim c.in_default.branch [
      | in_default-via-then-word-lt1 w ↦ search rules
      | in_default-via-else-word-lt1+in_default-1 w ↦ search rules
    ])

pub returns-in_err-natural_number-in-45 : goal.returns-in_err-natural_number-in-45
returns-in_err-natural_number-in-45 c =
    let none = rw take_rest at c.in_err-natural_number-in-45.ensures.value in
    c.from_residual.ensures ∙ sym (minus (goal.at.returns-in_err-natural_number-in-45 c).In-45 ∙ ap (option_map (λ n. neg_ℤ (pos n))) (sym none))

pub returns-in_err-natural_number-in_default : goal.returns-in_err-natural_number-in_default
returns-in_err-natural_number-in_default c =
    c.from_residual-in_err-natural_number-in_default.ensures ∙ sym (plain (goal.at.returns-in_err-natural_number-in_default c).In_default ∙ ap (option_map pos) (sym c.in_err-natural_number-in_default.ensures.value))

pub returns-in_ok-natural_number-in-45 : goal.returns-in_ok-natural_number-in-45
returns-in_ok-natural_number-in-45 c =
    let value = c.in_ok-natural_number-in-45.field-0 in
    let told = c.in_ok-natural_number-in-45.ensures in
    let small = told.bound in
    let some = rw take_rest at told.value in
    let same : to_z w32 (of_z w32 (pos 0 -ℤ to_z w32 value)) ≡ neg_ℤ (pos value) = omega (arith, ints) in
    ap Some same ∙ sym (minus (goal.at.returns-in_ok-natural_number-in-45 c).In-45 ∙ ap (option_map (λ n. neg_ℤ (pos n))) (sym some))

pub returns-in_ok-natural_number-in_default : goal.returns-in_ok-natural_number-in_default
returns-in_ok-natural_number-in_default c =
    let small = c.in_ok-natural_number-in_default.ensures.bound in
    let same : to_z w32 c.in_ok-natural_number-in_default.field-0 ≡ pos c.in_ok-natural_number-in_default.field-0 = omega (arith, ints) in
    ap Some same ∙ sym (plain (goal.at.returns-in_ok-natural_number-in_default c).In_default ∙ ap (option_map pos) (sym c.in_ok-natural_number-in_default.ensures.value))
