-- The year law, of the book that the code's calls leave.
use Rattle.std.proofs.Common.{◌≡◌, List, [], ◌∷◌, ◌++◌, Some, None, Result, sym, refl, ap, ◌∙◌, subst, arith}
use Rattle.questions.specs.Questions.{Refusal}
use Rattle.questions.proofs.Asked.{by_refusal}
use Rattle.year.specs.Terms.{Terms, count, open_refusal}
use Rattle.year.specs.Rc.{default}
use Rattle.year.specs.Book.{Book, Call, of_rc, opened, refusal, settled, step, run, accepted_calls}
use Rattle.year.specs.Balances.{EachBalance}
use Rattle.year.specs.Amounts.{no_amounts, amounts_after, Sums, MarketBounded}
use Rattle.year.specs.Defaults.{DefaultLaw}
use Rattle.year.specs.Year.{after}
use Rattle.year.specs.Consequences.{four}
use Rattle.year.proofs.Year.{year_law}
use Rattle.year.proofs.Consequences.{each_of, sums_of}
use Rattle.journal.specs.declared.entry.Answer.{Answer}
use Rattle.journal.specs.Entries.{answers_to, written, year_answers}
use Rattle.yearbook.specs.View.{unopened}
use Rattle.journal.specs.Kept.{KeptYear, Continued, Kept, AnyYear, begun, unbegun, KeptInParts}

pub kept_year : (t : Terms) → open_refusal t ≡ None → (calls : List Call) (b : Book) → b ≡ after t calls → KeptYear t calls b
kept_year t ok calls b e =
    let law = year_law t ok in
    record {
      left = e;
      balances = subst (λ (x : Book). EachBalance t x (accepted_calls (opened t) calls)) (sym e) (law.balances calls);
      sums = subst (λ (x : Book). Sums x (amounts_after (count t) no_amounts (accepted_calls (opened t) calls))) (sym e) (law.sums calls);
      market_bounds = subst (λ (x : Book). MarketBounded (count t) x.market) (sym e) (law.market_bounds calls);
      law = law;
    }

pub run_more : (b : Book) (earlier calls : List Call) → run b (earlier ++ calls) ≡ run (run b earlier) calls
run_more b [] calls = refl
run_more b (call ∷ earlier) calls = run_more (step b call) earlier calls

pub continued : (before : Book) (calls : List Call) (now : Book) → now ≡ run before calls → Continued before calls now
continued before calls now e t ok earlier is = kept_year t ok (earlier ++ calls) now (e ∙ ap (λ (b : Book). run b calls) is ∙ sym (run_more (opened t) earlier calls))

pub nothing_written : {X : Type 0} (old : List X) → old ≡ written old []
nothing_written [] = refl
nothing_written (x ∷ old) = refl

-- ---- a year, by what its opening was answered

-- with no call behind the opening
pub kept_by_opening : (t : Terms) (before now : Book) → now ≡ settled (open_refusal t) before (opened t) → Kept (open_refusal t) t [] before now
kept_by_opening t before now e =
    by_refusal (open_refusal t)
    (λ ok. rw ok (kept_year t ok [] now (rw ok at e)))
    (λ r refused. rw refused (rw refused at e))

opened_by : (t : Terms) (before now : Book) → open_refusal t ≡ None → Kept (open_refusal t) t [] before now → KeptYear t [] now
opened_by t before now ok k = rw ok at k

module _ (t : Terms) (calls : List Call) (before : Book) where
  pub kept_opening : open_refusal t ≡ None → (now middle : Book) → Kept (open_refusal t) t [] before middle → Continued middle calls now → Kept (open_refusal t) t calls before now
  kept_opening ok now middle k more = rw ok (more t ok [] (opened_by t before middle ok k).left)

  pub kept_refused : (r : Refusal) → open_refusal t ≡ Some r → (now : Book) → Kept (open_refusal t) t [] before now → Kept (open_refusal t) t calls before now
  kept_refused r refused now k = rw refused (rw refused at k)

  pub answers_opening : open_refusal t ≡ None → (middle : Book) → Kept (open_refusal t) t [] before middle → answers_to middle calls ≡ year_answers (open_refusal t) t calls
  answers_opening ok middle k = rw ok (ap (λ (b : Book). answers_to b calls) (opened_by t before middle ok k).left)

  pub answers_refused : (r : Refusal) → open_refusal t ≡ Some r → (places : List (Result Answer Refusal)) → places ≡ written places (year_answers (open_refusal t) t calls)
  answers_refused r refused places = rw refused (nothing_written places)

-- ---- a year in parts

left_alone : (t : Terms) (r : Refusal) (calls : List Call) (before now : Book) → open_refusal t ≡ Some r → Kept (open_refusal t) t calls before now → now ≡ before
left_alone t r calls before now refused k = rw refused at k

pub kept_in_parts : KeptInParts
kept_in_parts = record {
  joined = λ t ok call calls b b₁ b₂ b₃ start one more. more t ok (call ∷ []) (one t ok [] (opened_by t b b₁ ok start).left).left;
  next_default = λ t calls b k debtor unpaid.
      subst (λ (x : Book). refusal x (of_rc (default debtor unpaid)) ≡ None → DefaultLaw t debtor unpaid x.rc.balances (step x (of_rc (default debtor unpaid))).rc.balances) (sym k.left)
      (k.law.defaults calls debtor unpaid);
  refused_opening = λ t t' r calls calls' b b' k refused now. subst (KeptYear t calls) (sym (left_alone t' r calls' b b' refused now)) k;
  figures = λ calls b k e. (
    (each_of b (subst (EachBalance four b) e k.balances)).1,
    sums_of b (subst (λ cs. Sums b (amounts_after 4 no_amounts cs)) e k.sums),
    k.market_bounds 3 (omega arith),
  );
}

-- ---- whatever a program has done

pub any_new : (b : Book) → b ≡ unopened → AnyYear b
any_new b e = unbegun [] e

pub any_more : (before now : Book) (call : Call) → now ≡ step before call → AnyYear before → AnyYear now
any_more before now call e (begun t ok calls kept) = begun t ok (calls ++ (call ∷ [])) (continued before (call ∷ []) now e t ok calls kept.left)
any_more before now call e (unbegun calls is) = unbegun (calls ++ (call ∷ [])) (e ∙ ap (λ (b : Book). step b call) is ∙ sym (run_more unopened calls (call ∷ [])))

pub any_opening : (t : Terms) (before now : Book) → Kept (open_refusal t) t [] before now → AnyYear before → AnyYear now
any_opening t before now kept any =
    by_refusal (open_refusal t)
    (λ ok. begun t ok [] (opened_by t before now ok kept))
    (λ r refused. subst AnyYear (sym (left_alone t r [] before now refused kept)) any)
