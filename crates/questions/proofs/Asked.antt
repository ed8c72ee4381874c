-- What follows from questions that were passed or not, and one turn of a loop that asks.
use Rattle.std.proofs.Common.{◌≡◌, ℕ, zero, suc, ◌+◌, ◌<◌, Bool, true, false, Some, None, Ok, Err, Option, sym, refl, ap, ◌∙◌, ap₂, ⊎_elim, add-one, arith}
use Rattle.std.proofs.lemmas.Bool.{cases_eq}
use Rattle.questions.specs.Questions.{Refusal, no_at, ask, first, in_turn, answer}

pub some_none : {X : Type 0} {x : X} → Some x ≡ None → ⊥
some_none h = cc

-- by what was asked: nothing refused, or a refusal
pub by_refusal : {P : Type 0} (o : Option Refusal) → (o ≡ None → P) → ((r : Refusal) → o ≡ Some r → P) → P
by_refusal None passed refused = passed refl
by_refusal (Some r) passed refused = refused r refl

pub ask_passed : (yes_to : Bool) (q p : ℕ) (rest : Option Refusal) → ask yes_to q p rest ≡ None → (yes_to ≡ true) × (rest ≡ None)
unfolding ask
ask_passed true q p rest h = (refl, h)
ask_passed false q p rest h = cc

pub first_passed : (o rest : Option Refusal) → first o rest ≡ None → (o ≡ None) × (rest ≡ None)
unfolding first
first_passed None rest h = (refl, h)
first_passed (Some r) rest h = cc

module _ (asked : ℕ → Option Refusal) where
  -- nothing was refused below i, and not at i
  pub turn_passed : (i : ℕ) → in_turn i asked ≡ None → asked i ≡ None → in_turn (i + 1) asked ≡ None
  unfolding in_turn first
  turn_passed i e here = rw (add-one, e) here

  -- nothing was refused below i, and i is the first that is
  pub turn_refused : (n i : ℕ) (r : Refusal) → i < n → in_turn i asked ≡ None → asked i ≡ Some r → in_turn n asked ≡ Some r
  unfolding in_turn first
  turn_refused zero i r h e here = absurd (omega arith)
  turn_refused (suc n) i r h e here =
      ⊎_elim
      (λ same. let e' : in_turn n asked ≡ None = ap (λ j. in_turn j asked) (sym same) ∙ e in rw e' (ap asked (sym same) ∙ here))
      (λ other. rw (turn_refused n i r (omega arith) e here))
      (cases_eq i n)

  -- every place below n passed
  pub turn_at : (n k : ℕ) → in_turn n asked ≡ None → k < n → asked k ≡ None
  unfolding in_turn
  turn_at zero k e h = absurd (omega arith)
  turn_at (suc n) k e h =
      let p = first_passed (in_turn n asked) (asked n) e in
      ⊎_elim (λ same. ap asked same ∙ p.1) (λ other. turn_at n k p.0 (omega arith)) (cases_eq k n)

  pub turn_all : (n : ℕ) → ((k : ℕ) → k < n → asked k ≡ None) → in_turn n asked ≡ None
  unfolding in_turn first
  turn_all zero h = refl
  turn_all (suc n) h = rw (turn_all n (λ k l. h k (omega arith))) (h n (omega arith))

  -- the place of the first no
  pub turn_first : (n : ℕ) (r : Refusal) → in_turn n asked ≡ Some r → (i : ℕ) × (i < n) × (in_turn i asked ≡ None) × (asked i ≡ Some r)
  unfolding in_turn first
  turn_first zero r e = cc
  turn_first (suc n) r e =
      by_refusal (in_turn n asked)
      (λ ok. (n, omega arith, ok, (rw ok at e)))
      (λ g refused. let same : in_turn n asked ≡ Some r = refused ∙ (rw refused at e) in let p = turn_first n r same in (p.0, omega arith, p.2, p.3))

-- the same questions at each place below n
pub turn_same : (n : ℕ) (asked asked' : ℕ → Option Refusal) → ((k : ℕ) → k < n → asked k ≡ asked' k) → in_turn n asked ≡ in_turn n asked'
unfolding in_turn
turn_same zero asked asked' h = refl
turn_same (suc n) asked asked' h = ap₂ first (turn_same n asked asked' (λ k l. h k (omega arith))) (h n (omega arith))

-- ---- what an answer tells of the questions

pub ok_answer : {T : Type 0} (o : Option Refusal) (value x : T) → Ok x ≡ answer o value → o ≡ None
ok_answer None value x e = refl
ok_answer (Some r) value x e = cc

pub err_answer : {T : Type 0} (o : Option Refusal) (value : T) (r : Refusal) → Err r ≡ answer o value → o ≡ Some r
err_answer None value r e = cc
err_answer (Some s) value r e = cc

-- the questions of a part that refused, or passed, before those behind it
pub first_refused : {o : Option Refusal} {r : Refusal} (rest : Option Refusal) → o ≡ Some r → first o rest ≡ Some r
unfolding first
first_refused rest e = rw e

pub first_none : {o : Option Refusal} (rest : Option Refusal) → o ≡ None → first o rest ≡ rest
unfolding first
first_none rest e = rw e

pub ask_yes : {yes_to : Bool} (q p : ℕ) (rest : Option Refusal) → yes_to ≡ true → ask yes_to q p rest ≡ rest
unfolding ask
ask_yes q p rest e = rw e

pub ask_no : {yes_to : Bool} (q p : ℕ) (rest : Option Refusal) → yes_to ≡ false → ask yes_to q p rest ≡ Some (no_at q p)
unfolding ask
ask_no q p rest e = rw e

pub turn_none : (asked : ℕ → Option Refusal) → in_turn 0 asked ≡ None
unfolding in_turn
turn_none asked = refl

pub refused_answer : {T : Type 0} (o : Option Refusal) (value : T) (r : Refusal) → o ≡ Some r → Err r ≡ answer o value
refused_answer o value r e = rw e

pub accepted_answer : {T : Type 0} (o : Option Refusal) (value x : T) → o ≡ None → x ≡ value → Ok x ≡ answer o value
accepted_answer o value x e is = rw (e, is)
