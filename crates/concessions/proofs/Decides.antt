-- What an entry leaves is the only list of its kind.
use Rattle.std.proofs.Common.{◌≡◌, ℕ, true, ◌&&◌, eqb, List, sym, ◌∙◌, subst, inl, inr}
use Rattle.std.proofs.lemmas.Bool.{cases_Bool, and_parts, eqb-true}
use Rattle.concessions.specs.declared.allowances.Allowance.{Allowance}
use Rattle.concessions.specs.Concessions.{allowance_of, Entered, EnteredDecides}

-- of the pair itself
own : (coordinator resource allowance : ℕ) (before after : List Allowance) → Entered coordinator resource allowance before after → (c r : ℕ) → (eqb coordinator c && eqb resource r) ≡ true → allowance_of c r after ≡ allowance
own coordinator resource allowance before after h c r e =
    let p = and_parts (eqb coordinator c) (eqb resource r) e in
    subst (λ d. allowance_of d r after ≡ allowance) (eqb-true coordinator c p.0)
    (subst (λ s. allowance_of coordinator s after ≡ allowance) (eqb-true resource r p.1) h.allowed)

pub entered_decides : EnteredDecides
entered_decides coordinator resource allowance before one other h g = record {
  allowances = λ c r. elim (cases_Bool (eqb coordinator c && eqb resource r)) [
    | inl e ↦ own coordinator resource allowance before one h c r e ∙ sym (own coordinator resource allowance before other g c r e)
    | inr e ↦ h.others_allowed c r e ∙ sym (g.others_allowed c r e)
  ];
  pairs = λ c r. h.others_listed c r ∙ sym (g.others_listed c r);
  number = h.number ∙ sym g.number;
}
