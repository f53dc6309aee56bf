use Rattle.std.proofs.Common.{Some, sym, ap, ◌∙◌, arith}
use Rattle.std.proofs.lemmas.Bool.{eqb-true, eqb-false}
use Rattle.setup.proofs.Numbers.{read_more, read_all, read_no, read_bound, natural_some, natural_letters, natural_empty, natural_long}
use Rattle.setup.proofs.number.natural_number.Goals as goal
use Rattle.setup.proofs.number.natural_number.Goals.{then-is_empty-via-then-is_empty, then-is_empty-via-else-is_empty+then-digits-gt9}

pub returns-then-is_empty-clause-value : goal.returns-then-is_empty-clause-value
returns-then-is_empty-clause-value c =
    elim c.then-is_empty.branch [
      | then-is_empty-via-then-is_empty w ↦ sym (natural_empty _ (eqb-true _ _ (sym w.if-is_empty.ensures)))
      | then-is_empty-via-else-is_empty+then-digits-gt9 w ↦ sym (natural_long _ w.if-digits-gt9.true)
    ]

pub returns-then-not-is_ascii_digit-clause-value : goal.returns-then-not-is_ascii_digit-clause-value
returns-then-not-is_ascii_digit-clause-value c =
    sym (natural_letters _ (read_no _ _ _ c.loop-digit.invariant c.loop-digit-test.true (sym c.if-not-is_ascii_digit.ensures.value)))

pub loop-digit-preserved : goal.loop-digit-preserved
loop-digit-preserved c =
    read_more _ _ _ c.loop-digit.invariant _ c.loop-digit-test.true (sym c.if-not-is_ascii_digit.ensures.value) c.from.ensures

pub returns : goal.returns
returns c =
    let digits = c.args.digits.now in
    let read = read_all _ _ _ c.loop-digit.invariant c.loop-digit-test.false in
    let some = eqb-false _ _ (sym c.if-is_empty.ensures) in
    record {
      value = ap Some read.1 ∙ sym (natural_some digits read.0 (omega arith) c.if-digits-gt9.false);
      bound = read_bound digits _ _ c.loop-digit.invariant 9 (omega arith);
    }
