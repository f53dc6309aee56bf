-- A room that is made and one that is refused, by what the making of its corner answers.
use Rattle.std.proofs.Common.{◌≡◌, ℕ, Bool, true, false, ◌&&◌, ℤ, pos, Some, None, Ok, Err, Result, MatchResult, sym, refl, ap, ◌∙◌, arith}
use lib.Signed.{le_z}
use Rattle.std.proofs.lemmas.Int.{ints}
use Rattle.math.specs.declared.IVector.{IVector}
use Rattle.sight.specs.declared.scan.Scan.{Scan}
use Rattle.refusals.specs.declared.Refusal.{Refusal}
use Rattle.refusals.specs.declared.Refusal.TheVariants.{BadMaking}
use Rattle.grid.specs.Lawful.{exponent_fits, chunk_fits}
use Rattle.sight.specs.Power.{cube}
use Rattle.session.specs.declared.outcome.Outcome.TheVariants.{Done, Refused}
use Rattle.session.specs.Answers.{room_fits, Opens, kinds_in}

abbrev corner_fits : ℤ → IVector → ℕ → Bool
corner_fits e key n = exponent_fits (Some e) && chunk_fits key (cube e) n

above : (n : ℕ) → le_z (pos 0) (pos n) ≡ true
above n = grind (arith, ints)

-- an id that is not below 0 is judged with the rest
fits : (e : ℤ) (key : IVector) (n : ℕ) → room_fits e key (pos n) ≡ corner_fits e key n
fits e key n = ap (λ (b : Bool). b && corner_fits e key n) (above n)

never : {A : Type 0} → true ≡ false → A
never e = let z : ◌≡◌ {A = ℕ} 0 1 = cc in absurd (omega arith)

-- what the making of the corner answers
abbrev pub Makes : {S : Type 0} → (S → ℕ → ℕ) → ℤ → IVector → ℕ → Result (Scan S) Refusal → Type 0
Makes kinds e key n r = MatchResult r
    (λ s. (corner_fits e key n ≡ true) × ((s.exponent ≡ e) × ((s.chunk.frame.key ≡ key) × ((s.chunk.frame.id ≡ n) × ((m : ℕ) → kinds_in kinds s m ≡ 0)))))
    (λ x. (corner_fits e key n ≡ false) × (x ≡ BadMaking))

abbrev pub OpensAs : {S : Type 0} → (S → ℕ → ℕ) → ℤ → IVector → ℤ → Result (Scan S) Refusal → Type 0
OpensAs kinds e key id r = MatchResult r (λ s. Opens kinds e key id Done (Some s)) (λ x. Opens kinds e key id (Refused x) None)

pub room_opens : {S : Type 0} (kinds : S → ℕ → ℕ) (e : ℤ) (key : IVector) (n : ℕ) (r : Result (Scan S) Refusal) → Makes kinds e key n r → OpensAs kinds e key (pos n) r
room_opens kinds e key n (Ok s) a = record {
  made = λ _. (refl, record { exponent = a.1.0; key_is = a.1.1.0; id_is = ap pos a.1.1.1.0; empty = a.1.1.1.1 });
  refused = λ no. never (sym a.0 ∙ sym (fits e key n) ∙ no);
}
room_opens kinds e key n (Err x) a = record {
  made = λ yes-fits. never (sym yes-fits ∙ fits e key n ∙ a.0);
  refused = λ _. (ap Refused a.1, refl);
}
