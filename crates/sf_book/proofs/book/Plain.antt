-- What the type of books keeps, through its calls.
use Rattle.sf_book.proofs.Common.{common_steps, arith, add-zero, refl, sym, ap, subst, ◌∙◌, ◌≡◌, ℕ, ◌+◌, ◌*◌, ◌<◌, Bool, true, List, ◌∷◌, ◌++◌, [], map, Some, append-nil, Insn, IsLawfulStack, IsPlain, Answer, PieceData, WorkData, StepData, Split, Settled, Empty, IsRightStep, IsRightWork, IsRoot, is_member, IsPlainPiece, IsPlainStep, IsPlainWork, OutstandingData, RegionData, BookData, fresh, without, MayCommit, CommitsAs, IsBook, IsPlainWhereStackIs, bit, plain_fresh, plain_marks, All-append, All-filter, All-from_recursion, HasStep, IsInTree, IsFirst, IsExecutionOne, Unfolding, IsPieceOf, Outstanding, Region, Emptied, Fork}
use Rattle.std.proofs.lemmas.List.{append_assoc}
use Rattle.sf_book.proofs.book.Growing.{fringe-fresh, fringe-marks, commit_fringe}
use Rattle.sf_book.proofs.book.Kept.{Replaces, committed, commit_kept, kept_fresh, kept_marks}
use Rattle.sf_book.proofs.book.Names.{split_members, split_names, answer_members, answer_begins, prefix_bit-le}

pub fresh_book : (stack : List (List Insn)) (r : PieceData) (budget : ℕ) → IsLawfulStack stack → IsRoot stack r
    → IsFirst stack r → (IsPlain r.stack → IsPlainPiece r) → IsBook (fresh stack r budget) 1
fresh_book stack r budget lawful root first plain = record {
  kept = kept_fresh stack r budget lawful root;
  plain = record { book = λ p. plain_fresh stack r budget (plain (subst IsPlain (sym first.stack_is) p)) };
  fringe = fringe-fresh stack r budget (record {
    reached = record {
      first = r;
      starts = subst (λ (s : List (List Insn)). IsFirst s r) (sym first.stack_is) first;
      sides = [];
      below = refl;
    };
    of = first.stack_is;
  }) first.name;
}

pub marks_book : (b : BookData) (next : ℕ) (g : OutstandingData → OutstandingData)
    → ((e : OutstandingData) → (g e).id ≡ e.id)
    → ((e : OutstandingData) → (g e).piece ≡ e.piece) → IsBook b next
    → IsBook (record b { outstanding = map g b.outstanding }) next
marks_book b next g ids pieces h = record {
  kept = kept_marks b next g ids pieces h.kept;
  plain = record { book = λ p. plain_marks b g pieces (h.plain.book p) };
  fringe = fringe-marks b g pieces h.fringe;
}

-- what a commit knows of its work
pub record IsLawfulWork (w : WorkData) (step : StepData) : Type 0 where
  pub one : IsExecutionOne
  pub right : IsRightWork w
  pub rule : HasStep w.piece w.step w.name
  pub reached : IsInTree w.piece
  pub plain : IsPlain w.piece.stack → IsPlainWork w
  pub is : w.step ≡ step

abbrev pub leased_piece : ℕ → PieceData → OutstandingData
leased_piece k p = record { id = k; piece = p; leased = true }

abbrev pub after_split : BookData → List OutstandingData → BookData
after_split b es = record b { outstanding = es; splits = b.splits + 1; commits = b.commits + 1 }

module _ (b : BookData) (next id : ℕ) (w : WorkData) (h : IsBook b next) (m : MayCommit b id w)
    (room : b.commits < b.budget) where
  right_step : (step : StepData) → IsLawfulWork w step → IsRightStep w.piece step w.name
  right_step step k = subst (λ (s : StepData). IsRightStep w.piece s w.name) k.is k.right.1

  rule_step : (step : StepData) → IsLawfulWork w step → HasStep w.piece step w.name
  rule_step step k = subst (λ (s : StepData). HasStep w.piece s w.name) k.is k.rule

  plain_step : (step : StepData) → IsLawfulWork w step → IsPlain b.stack → IsPlainPiece w.piece
      × IsPlainStep w.piece step w.name
  plain_step step k p =
      let plain = k.plain (subst IsPlain (sym m.same_stack) p) in
      (plain.piece, subst (λ (s : StepData). IsPlainStep w.piece s w.name) k.is plain.step)

  -- what comes in the place of a plain piece leaves the book plain
  commit_plain : (u : Unfolding) (es : List OutstandingData) (rs : List RegionData) (ns : List (List Bool))
      (splits : ℕ) → Replaces b.stack w.piece next u es rs ns splits
      → IsPlainWhereStackIs (committed b id es rs ns splits)
  commit_plain u es rs ns splits r = record {
    book = λ p.
        let old = h.plain.book p in
        let new = r.plain p in
        search (arith, All-append, All-filter, All-from_recursion);
  }

  replaced : (c : BookData) (n : ℕ) (step : StepData) (u : Unfolding) (es : List OutstandingData)
      (rs : List RegionData) (ns : List (List Bool)) (splits : ℕ) → IsLawfulWork w step
      → c ≡ committed b id es rs ns splits → n ≡ next + 2 * splits
      → Replaces b.stack w.piece next u es rs ns splits → IsBook c n
  replaced c n step u es rs ns splits k is up r = record {
    kept = rw (is, up) (commit_kept b next id w u es rs ns splits h.kept m room k.right.0 r);
    plain = rw is (commit_plain u es rs ns splits r);
    fringe = rw is (commit_fringe k.one b next id w u es rs ns splits h.kept.lawful m h.fringe r);
  }

  pub split_book : (f t : PieceData) → IsLawfulWork w (Split f t)
      → IsBook (after_split b
      ((without id b.outstanding ++ leased_piece next f ∷ []) ++ leased_piece (next + 1) t ∷ [])) (next + 2)
  split_book f t k =
      let s = (right_step (Split f t) k).0 in
      let step : HasStep w.piece (Split f t) w.piece.name =
      rw (right_step (Split f t) k).1 at (rule_step (Split f t) k) in
      let sides = k.one.sides w.piece f t k.reached step in
      let left : IsPieceOf b.stack f = record { reached = sides.0; of = s.false_stack ∙ m.same_stack } in
      let right : IsPieceOf b.stack t = record { reached = sides.1; of = s.true_stack ∙ m.same_stack } in
      replaced _ _ (Split f t) (Fork w.piece (Outstanding f) (Outstanding t))
      (leased_piece next f ∷ leased_piece (next + 1) t ∷ []) [] [] 1 k (simp (append-nil, append_assoc)) (omega arith)
      (record {
        outstanding = (
          record { of = left.of; named = s.false_named },
          (record { of = right.of; named = s.true_named }, tt),
        );
        regions = tt;
        emptied = tt;
        one = λ d i. let both = split_members w.piece f t k.right.0 s d i in omega arith;
        apart = λ l. let both = split_names w.piece f t s l in omega arith;
        counts = (refl, refl);
        rising = ((omega arith, tt), (tt, tt));
        new = ((omega arith, omega arith), ((omega arith, omega arith), tt));
        unfolds = (record { reached = k.reached; of = m.same_stack }, step, left, right);
        shape = (refl, refl, refl, refl, refl);
        reached = (left, (right, tt));
        plain = λ p. let both = (plain_step (Split f t) k p).1 in ((both.0, (both.1, tt)), tt, refl);
        settled = tt;
      })

  pub answer_book : (a : Answer) → IsLawfulWork w (Settled a)
      → IsBook (record b {
        outstanding = without id b.outstanding;
        regions = b.regions ++ record { piece = w.piece; name = w.name; answer = a } ∷ [];
        commits = b.commits + 1;
      }) next
  answer_book a k =
      let s = right_step (Settled a) k in
      let of : IsPieceOf b.stack w.piece = record { reached = k.reached; of = m.same_stack } in
      let region : RegionData = record { piece = w.piece; name = w.name; answer = a } in
      replaced _ _ (Settled a) (Region w.piece w.name a) [] (region ∷ []) [] 0 k (simp (append-nil, add-zero))
      (omega arith) (record {
        outstanding = tt;
        regions = (
          rw (← m.same_stack) (record {
            of = refl;
            route = s.route;
            members = answer_members w.piece w.name a k.right.0 s;
            answers = s.answers;
          }),
          tt,
        );
        emptied = tt;
        one = λ d i. omega arith;
        apart = λ l. omega (arith, prefix_bit-le w.piece.name w.name l (answer_begins w.piece w.name a s));
        counts = (refl, refl);
        rising = tt;
        new = tt;
        unfolds = (of, rule_step (Settled a) k);
        shape = (refl, refl, refl, refl, refl);
        reached = tt;
        plain = λ p. (tt, ((plain_step (Settled a) k p).0, tt), refl);
        settled = ((of, rule_step (Settled a) k), tt);
      })

  pub empty_book : IsLawfulWork w Empty
      → IsBook (record b {
        outstanding = without id b.outstanding;
        emptied = b.emptied ++ w.piece.name ∷ [];
        commits = b.commits + 1;
      }) next
  empty_book k =
      let s = (right_step Empty k).0 in
      replaced _ _ Empty (Emptied w.piece) [] [] (w.piece.name ∷ []) 0 k (simp (append-nil, add-zero)) (omega arith)
      (record {
        outstanding = tt;
        regions = tt;
        emptied = (rw (← m.same_stack) (record { none = λ d i. sym (k.right.0.members d i) ∙ s.none d i }), tt);
        one = λ d i. let none : bit (is_member w.piece d) ≡ 0 = ap bit (s.none d i) in omega arith;
        apart = λ l. omega arith;
        counts = (refl, refl);
        rising = tt;
        new = tt;
        unfolds = (
          record { reached = k.reached; of = m.same_stack },
          rw (right_step Empty k).1 at (rule_step Empty k),
        );
        shape = (refl, refl, refl, refl, refl);
        reached = tt;
        plain = λ p. absurd (plain_step Empty k p).1;
        settled = tt;
      })

-- the book in which both children stand in the place of their piece is the one that the commit of a split leaves
pub split_commits : (b : BookData) (next id : ℕ) (w : WorkData) (f t : PieceData) (es : List OutstandingData)
    → IsBook b next → w.step ≡ Split f t
    → es ≡ (without id b.outstanding ++ leased_piece next f ∷ []) ++ leased_piece (next + 1) t ∷ []
    → CommitsAs b id w.piece w.name w.step (Some (next, next + 1)) (after_split b es)
split_commits b next id w f t es h is put = grind (arith, common_steps, append_assoc, leased_piece, after_split)
