-- A call that is refused leaves the book; an accepted one has its effect.
use Rattle.std.proofs.Common.{◌≡◌, Some, None, Ok, Err, Option, Result}
use Rattle.questions.specs.Questions.{Refusal, answer}
use Rattle.questions.proofs.Asked.{err_answer}
use Rattle.year.specs.Book.{Book, Call, refusal, effect, settled}
use Rattle.yearbook.specs.Taken.{Taken}

pub taken_refused : {T : Type 0} (b : Book) (call : Call) (value : T) (r : Refusal) → refusal b call ≡ Some r → Taken b call value b (Err r)
taken_refused b call value r e = record { answered = rw e; left = rw e }

pub taken_accepted : {T : Type 0} (b : Book) (call : Call) (value : T) (b' : Book) → refusal b call ≡ None → b' ≡ effect b call → Taken b call value b' (Ok value)
taken_accepted b call value b' e w = record { answered = rw e; left = rw e w }

-- the same of the book alone, by what was answered
pub refused_leaves : {T : Type 0} (o : Option Refusal) (value : T) (r : Refusal) (b b' : Book) → Err r ≡ answer o value → b ≡ settled o b b'
refused_leaves o value r b b' e = rw (err_answer o value r e)

pub accepted_leaves : (o : Option Refusal) (b b' b'' : Book) → o ≡ None → b'' ≡ b' → b'' ≡ settled o b b'
accepted_leaves o b b' b'' e w = rw e w

-- the last question decides
pub taken_last : {T : Type 0} (b : Book) (call : Call) (value : T) (b' : Book) (o : Option Refusal) (said : Result T Refusal) → refusal b call ≡ o → said ≡ answer o value → b' ≡ settled o b (effect b call) → Taken b call value b' said
taken_last b call value b' o said e a w = record { answered = rw e a; left = rw e w }

pub taken_telling : {T : Type 0} (b : Book) (call : Call) (value told : T) (b' : Book) → refusal b call ≡ None → told ≡ value → b' ≡ effect b call → Taken b call value b' (Ok told)
taken_telling b call value told b' e is w = rw is (taken_accepted b call value b' e w)
