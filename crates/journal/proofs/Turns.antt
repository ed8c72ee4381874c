-- Entries taken in turn.
use Rattle.std.proofs.Common.{◌≡◌, ℕ, suc, ◌+◌, ◌<◌, ◌≤◌, List, [], ◌∷◌, ◌++◌, map, length, get_or, take, set, Result, sym, refl, ap, subst, ◌∙◌, arith}
use Rattle.std.proofs.lemmas.List.{take_more, take_all, length-take-le, length-map, map-append, map-set, set_past}
use Rattle.questions.specs.Questions.{Refusal, answer, told}
use Rattle.year.specs.Book.{Book, Call, refusal, step, run}
use Rattle.yearbook.specs.declared.fault.BookFault.{BookFault}
use Rattle.yearbook.specs.Faults.{book_fault}
use Rattle.yearbook.specs.Taken.{Taken}
use Rattle.journal.specs.declared.entry.Answer.{Answer}
use Rattle.journal.specs.Entries.{answer_to, answers_to, written}
use Rattle.journal.proofs.Kept.{nothing_written, run_more}

-- one call more is answered by the book that those before it leave
answers_more : (b : Book) (calls : List Call) (call : Call) →
    answers_to b (calls ++ (call ∷ [])) ≡ answers_to b calls ++ (answer (refusal (run b calls) call) (answer_to (run b calls) call) ∷ [])
answers_more b [] call = refl
answers_more b (c ∷ calls) call = ap (λ xs. answer (refusal b c) (answer_to b c) ∷ xs) (answers_more (step b c) calls call)

length_answers : (b : Book) (calls : List Call) → length (answers_to b calls) ≡ length calls
length_answers b [] = refl
length_answers b (call ∷ calls) = ap suc (length_answers (step b call) calls)

-- one value more goes into the place behind the others, if there is one
written_more : {X : Type 0} (old new : List X) (x : X) → written old (new ++ (x ∷ [])) ≡ set (written old new) (length new) x
written_more [] new x = refl
written_more (p ∷ old) [] x = ap (λ ps. x ∷ ps) (sym (nothing_written old))
written_more (p ∷ old) (y ∷ new) x = ap (λ ps. y ∷ ps) (written_more old new x)

-- ---- the loop over the entries

abbrev Place : Type 0
Place = Result Answer BookFault

-- the entries below i are taken
pub record Taking {E : Type 0} (call : E → Call) (old : Book) (es : List E) (places : List Place) (now : Book) (answers : List Place) (i : ℕ) : Type 0 where
  pub left : now ≡ run old (map call (take i es))
  pub said : map (told book_fault) answers ≡ written (map (told book_fault) places) (answers_to old (map call (take i es)))

module _ {E : Type 0} (call : E → Call) (old : Book) (es : List E) (places : List Place) where
  pub taking_none : Taking call old es places old places 0
  taking_none = record { left = refl; said = nothing_written (map (told book_fault) places) }

  module _ (now new : Book) (answers : List Place) (i : ℕ) (e : E) (a : Place) (w : i < length es) (is : e ≡ get_or es i e)
      (t : Taking call old es places now answers i) (took : Taken now (call e) (answer_to now (call e)) new (told book_fault a)) where
    abbrev calls : List Call
    calls = map call (take i es)

    abbrev said_before : List (Result Answer Refusal)
    said_before = answers_to old calls

    one_more : map call (take (i + 1) es) ≡ calls ++ (call e ∷ [])
    one_more = ap (map call) (take_more es i e w) ∙ map-append call (take i es) (get_or es i e ∷ []) ∙ ap (λ (x : E). calls ++ (call x ∷ [])) (sym is)

    long : length said_before ≡ i
    long = length_answers old calls ∙ length-map (take i es) call ∙ length-take-le i es (omega arith)

    pub taking_written : Taking call old es places new (set answers i a) (i + 1)
    taking_written = record {
      left = took.left ∙ ap (λ (b : Book). step b (call e)) t.left ∙ sym (run_more old calls (call e ∷ [])) ∙ ap (run old) (sym one_more);
      said =
          map-set (told book_fault) answers i a
          ∙ ap (λ xs. set xs i (told book_fault a)) t.said
          ∙ ap (λ k. set (written (map (told book_fault) places) said_before) k (told book_fault a)) (sym long)
          ∙ sym (written_more (map (told book_fault) places) said_before (told book_fault a))
          ∙ ap (λ x. written (map (told book_fault) places) (said_before ++ (x ∷ []))) (took.answered ∙ ap (λ (b : Book). answer (refusal b (call e)) (answer_to b (call e))) t.left)
          ∙ ap (written (map (told book_fault) places)) (sym (answers_more old calls (call e)) ∙ ap (answers_to old) (sym one_more));
    }

    pub taking_past : length answers ≤ i → Taking call old es places new answers (i + 1)
    taking_past past = subst (λ (xs : List Place). Taking call old es places new xs (i + 1)) (set_past answers i a past) taking_written

  pub taking_all : (now : Book) (answers : List Place) (i : ℕ) → length es ≤ i → Taking call old es places now answers i →
      (now ≡ run old (map call es)) × (map (told book_fault) answers ≡ written (map (told book_fault) places) (answers_to old (map call es)))
  taking_all now answers i h t =
      let all : take i es ≡ es = take_all i es h in (
        t.left ∙ ap (λ (xs : List E). run old (map call xs)) all,
        t.said ∙ ap (λ (xs : List E). written (map (told book_fault) places) (answers_to old (map call xs))) all,
      )
