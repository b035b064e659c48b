-- A piece goes on over tests that fail, and by the rules too.
use Rattle.sf_piece.proofs.Common.{common_steps, ◌≡◌, ℕ, zero, suc, ◌+◌, ◌<◌, ◌≤◌, Bool, false, List, ◌++◌, length, get_or, replicate, refl, sym, ap, subst, ◌∙◌, inl, arith, append_assoc, append-nil, replicate-append-replicate, slice_get-get_or, Equal, Insn, LoadWord, Branch, Constant, IsAt, Known, known_at, IsClosed, IsForcedBy, SymbolicMachine, PieceData, IsLawfulPiece, IsAtHand, GoesOnFor, code_at, HasGoneOn, IsFailing, AreFailing, IsCodeAtHand, IsOver, behind_chain, Admits, AreSkipped, assumed, nat_tests, ◌≢◌}
use Rattle.std.proofs.Common.{◌==◌}
use Rattle.sf_piece.proofs.AtHand.{at_hand, place_inside}
use Rattle.sf_piece.proofs.Foretold.{gets_told, forced_test}
use Rattle.sf_piece.proofs.Executed.{told_goes}
use Rattle.sf_piece.proofs.Children.{taken_on}
use Rattle.sf_piece.proofs.Joined.{on_same, on_trans, branch_foreseen}
use Rattle.sf_piece.proofs.Lawful.{take_step, told_of_known}

-- ---- tests that fail

-- a number that isn't the only one of A: the rules forbid that A is equal to it
other_number : (k : Known) (m n : ℕ) → k.low ≡ m → k.high ≡ m → n ≢ m → IsForcedBy IsClosed k Equal n false
unfolding assumed
other_number k m n low high ne = grind (arith, common_steps, nat_tests)

-- tests for other numbers than the one that A has fail
pub others_fail : (code : List Insn) (known : Known) (number n place behind : ℕ)
    → known.low ≡ number → known.high ≡ number → AreSkipped code number n place behind
    → AreFailing code known n place behind
others_fail code known number zero place behind low high passed = passed
others_fail code known number (suc n) place behind low high passed =
    let test = passed.3 in (
      test.insn,
      test.skips,
      test.here,
      record {
        number = passed.0;
        on_true = test.asks.on_true;
        is = test.asks.is;
        fails = λ x admits. not_equal x passed.0 (λ e. passed.2 (sym e ∙ only x admits));
        forced = λ closed. other_number known number passed.0 low high passed.2;
      },
      others_fail code known number n (place + 1 + test.skips) behind low high
          (subst (λ (p : ℕ). AreSkipped code number n p behind) test.leads passed.4),
    )
  where
    only : (x : ℕ) → Admits known x → x ≡ number
    only x a = omega (arith, a.above, a.below, low, high)

    not_equal : (x k : ℕ) → x ≢ k → x == k ≡ false
    not_equal x k apart = grind (arith, nat_tests)

-- each test leads on, so the place behind n tests is at least n further
pub few_failing : (code : List Insn) (known : Known) (n place behind : ℕ) → AreFailing code known n place behind
    → place + n ≤ behind
few_failing code known zero place behind failing = omega (arith, failing)
few_failing code known (suc n) place behind failing =
    omega (arith, few_failing code known n (place + 1 + failing.1) behind failing.4)

-- ---- steps over them

pub goes_more : (n m : ℕ) (p q r : PieceData) → GoesOnFor n p q → GoesOnFor m q r → GoesOnFor (n + m) p r
goes_more zero m p q r h g =
    let count : m ≡ 0 + m = omega arith in
    subst (λ (k : ℕ). GoesOnFor k p r) count (subst (λ (x : PieceData). GoesOnFor m x r) h g)
goes_more (suc n) m p q r h g =
    let count : suc (n + m) ≡ suc n + m = omega arith in
    let all : GoesOnFor (suc (n + m)) p r = (h.0, h.1, goes_more n m h.0 q r h.2 g) in
    subst (λ (k : ℕ). GoesOnFor k p r) count all

gone_trans : (p q r : PieceData) → HasGoneOn p q → HasGoneOn q r → HasGoneOn p r
gone_trans p q r a b = search (arith, on_trans)

-- a number that is below another one is at most that one
weakened : (m n : ℕ) → m < n → m ≤ n
weakened m n h = omega (arith, h)

-- over no test a piece stays where it is
pub over_none : (p : PieceData) → IsLawfulPiece p → IsOver p 0 p.machine.place
over_none p h =
    let same : behind_chain p 0 p.machine.place ≡ p
    = ap (λ (l : List Bool). let q : PieceData = record p { name = l } in q) (append-nil p.name) in
    record {
      gone = subst (HasGoneOn p) (sym same) (record { is_on = on_same p; left = omega arith; lawful = h });
      rule = λ laws back. same;
    }

-- a piece goes on over one test that fails
over_one : (p : PieceData) (i : Insn) (known : Known) (f : ℕ) → IsLawfulPiece p → IsAtHand p i
    → known ≡ known_at p.facts.known p.machine.a.0 → IsFailing i known f → IsOver p 1 (p.machine.place + 1 + f)
over_one p i known f h at is fails =
    let n = fails.number in
    let test = Branch Equal (Constant n) fails.on_true f in
    let here : IsAtHand p test = subst (IsAtHand p) fails.is at in
    let standing = at_hand p test h.run here.0 here.1 in
    let m : SymbolicMachine = record p.machine { place = p.machine.place + 1 + f } in
    let fore = branch_foreseen p test Equal (Constant n) fails.on_true f false refl standing
    (told_of_known p Equal (Constant n) n known false h.run refl is fails.fails) in
    let step = take_step p test false m h standing fore refl in
    record {
      gone = record { is_on = step.0.is_on; left = weakened _ _ step.0.falls; lawful = step.1 };
      rule = λ laws back.
          let closed = subst IsClosed (sym is) (h.run.covers.rest p.machine.a.0 h.run.nodes.a).closed.known in
          let forced = subst (λ (k : Known). IsForcedBy IsClosed k Equal n false) is (fails.forced closed) in
          let given = gets_told laws p Equal n false h.run.covers (forced_test p Equal n false h.run standing.in_range
          (record { other = λ s c g. forced.other s c.known g; this = forced.this; that = forced.that }) back) in
          let goes = told_goes p (taken_on p false m) test Equal (Constant n) false (inl (fails.on_true, f, refl)) here
          given (record { machine = refl; rest = refl }) in
          (taken_on p false m, goes, refl);
    }

-- over the tests of two chains, one behind the other
over_both : (p : PieceData) (m n place behind : ℕ) → IsOver p m place → IsOver (behind_chain p m place) n behind
    → IsOver p (m + n) behind
over_both p m n place behind a b =
    let same : behind_chain (behind_chain p m place) n behind ≡ behind_chain p (m + n) behind
    = ap (λ (l : List Bool). let q : PieceData = record p { name = l; machine = record p.machine { place = behind } } in
    q) (append_assoc p.name (replicate m false) (replicate n false)
    ∙ ap (λ (l : List Bool). p.name ++ l) (replicate-append-replicate m n false)) in
    record {
      gone = subst (HasGoneOn p) same (gone_trans p (behind_chain p m place) _ a.gone b.gone);
      rule = λ laws back. subst (GoesOnFor (m + n) p) same
          (goes_more m n p (behind_chain p m place) _ (a.rule laws back) (b.rule laws back));
    }

-- the place behind n tests that fail is in the program
pub inside_behind : (p : PieceData) (code : List Insn) (n place : ℕ) → IsCodeAtHand p code → IsOver p n place
    → place < length code
inside_behind p code n place at over =
    let inside = place_inside (behind_chain p n place) over.gone.lawful.run at.running in
    omega (arith, inside, ap length at.is)

-- a piece behind n tests that fail goes on over one more
pub over_one_more : (p : PieceData) (code : List Insn) (known : Known) (n place f next : ℕ) → IsCodeAtHand p code
    → known ≡ known_at p.facts.known p.machine.a.0 → IsOver p n place
    → IsFailing (get_or code place (LoadWord 0)) known f → next ≡ place + (1 + f) → IsOver p (n + 1) next
over_one_more p code known n place f next at is over fails leads =
    let i = get_or code place (LoadWord 0) in
    let here = slice_get-get_or code place (LoadWord 0) (inside_behind p code n place at over) in
    let there : IsAt (code_at p) place i = subst (λ (c : List Insn). IsAt c place i) at.is here in
    let places : place + 1 + f ≡ next = omega (arith, leads) in
    subst (IsOver p (n + 1)) places (over_both p n 1 place (place + 1 + f) over
    (over_one (behind_chain p n place) i known f over.gone.lawful (at.running, there) is fails))

-- a piece goes on over a whole chain from where it stands
pub over_failing : (n : ℕ) (p : PieceData) (code : List Insn) (known : Known) (behind : ℕ) → IsLawfulPiece p
    → IsCodeAtHand p code → known ≡ known_at p.facts.known p.machine.a.0
    → AreFailing code known n p.machine.place behind → IsOver p n behind
over_failing zero p code known behind h at is failing = subst (IsOver p 0) (sym failing) (over_none p h)
over_failing (suc n) p code known behind h at is (i, skips, here, fails, more) =
    let next = p.machine.place + 1 + skips in
    let one = over_one p i known skips h (at.running, subst (λ (c : List Insn). IsAt c p.machine.place i) at.is here) is
    fails in
    let there : IsCodeAtHand (behind_chain p 1 next) code
    = record { running = at.running; is = at.is; inside = inside_behind p code 1 next at one; short = at.short } in
    let count : 1 + n ≡ suc n = omega arith in
    subst (λ (k : ℕ). IsOver p k behind) count (over_both p 1 n next behind one
    (over_failing n (behind_chain p 1 next) code known behind one.gone.lawful there is more))
