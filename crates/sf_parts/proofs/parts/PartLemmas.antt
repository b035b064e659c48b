-- The parts of a word, listed by its runs: each number is in one, which tells what comes behind it, and each part has a
-- number.
use Rattle.sf_parts.proofs.Common.{nat_tests, ◌≡◌, ℕ, suc, ◌+◌, ◌<◌, ◌≤◌, Bool, true, false, List, [], ◌∷◌, ◌++◌, length, refl, ◌∙◌, arith, ◌*◌, ◌^◌, map, ◌||◌, not, All, bit_and, nat_le, if◌then◌else◌, list_any, cond_both, All-nil, All-cons, All-tail, All-push, All-map, All-weaker, list_any-append, and_le_r, Tree, IsOrderedFrom, behind, is_same_tree, RunData, mask_in, runs_in, is_in_span, form_has, spans_of, part_in, longest_of, rest_in, behinds_after, PartData, span_part, joined_parts}
use Rattle.std.specs.Prelude.{◌-◌}
use Rattle.sf_parts.proofs.word.WordLemmas.{is_same_tree-true, is_same_tree-self}
use Rattle.sf_parts.proofs.runs.RunLemmas.{AreRuns, runs_in-right, mask-small, runs-length}

-- whether the runs that lead to a tree are meant, or the others
abbrev is_meant : Bool → Bool → Bool
is_meant without same = if without then not same else same

-- the spans of later runs do not have an earlier number
none-before : (word mask : ℕ) (t s : Tree) (without : Bool) (m p : ℕ) (runs : List RunData) → m < p
    → AreRuns word mask t p runs → list_any (is_in_span m) (spans_of runs s without) ≡ false
none-before word mask t s without m p [] l are = refl
none-before word mask t s without m p (r ∷ rest) l are =
    grind (arith, nat_tests, none-before word mask t s without m (suc r.last) rest (omega (arith, are.0, are.1)) are.4)

-- a number is in the spans exactly where what comes behind it is meant
pub in-spans : (word mask : ℕ) (t s : Tree) (without : Bool) (n p : ℕ) (runs : List RunData) → p ≤ bit_and n mask
    → AreRuns word mask t p runs
    → list_any (is_in_span (bit_and n mask)) (spans_of runs s without)
    ≡ is_meant without (is_same_tree (behind word t n) s)
in-spans word mask t s without n p [] from are = absurd (are n from)
in-spans word mask t s without n p (r ∷ rest) from are =
    let later = in-spans word mask t s without n (suc r.last) rest in
    let none = none-before word mask t s without (bit_and n mask) (suc r.last) rest in
    grind (arith, nat_tests, are.3 n from, later, none)

-- a joined part has exactly the numbers that lead to its tree
pub form-has : (word mask : ℕ) (t s : Tree) (without : Bool) (n : ℕ) (runs : List RunData) → AreRuns word mask t 0 runs
    → form_has (part_in mask runs without s).form n ≡ is_same_tree (behind word t n) s
form-has word mask t s without n runs are =
    grind (arith, in-spans word mask t s without n 0 runs (omega arith) are)

-- ---- how often a tree is listed

-- how many elements of a list pass a test
abbrev pub counted : {X : Type 0} → (X → Bool) → List X → ℕ
counted test [] = 0
counted test (x ∷ xs) = (if test x then 1 else 0) + counted test xs

pub counted-append : {X : Type 0} (test : X → Bool) (a b : List X)
    → counted test (a ++ b) ≡ counted test a + counted test b
counted-append test [] b = omega arith
counted-append test (x ∷ a) b = omega (arith, counted-append test a b)

-- how often a tree is in a list
abbrev pub times : Tree → List Tree → ℕ
times t ss = counted (is_same_tree t) ss

-- whether some run leads to a tree
abbrev leads : Tree → List RunData → Bool
leads t [] = false
leads t (r ∷ rest) = is_same_tree t r.behind || leads t rest

-- what comes behind a number is what some run leads to
leads-on : (word mask : ℕ) (t : Tree) (n p : ℕ) (runs : List RunData) → p ≤ bit_and n mask
    → AreRuns word mask t p runs → leads (behind word t n) runs ≡ true
leads-on word mask t n p [] from are = absurd (are n from)
leads-on word mask t n p (r ∷ rest) from are =
    grind (arith, are.3 n from, leads-on word mask t n (suc r.last) rest, is_same_tree-self r.behind)

-- what is to be listed of a tree: once, if it is not seen yet, and some run leads to it
abbrev due : Bool → Bool → ℕ
due seen led = if seen then 0 else (if led then 1 else 0)

times-behinds : (b : Tree) (seen : List Tree) (runs : List RunData)
    → times b (behinds_after seen runs) ≡ due (list_any (is_same_tree b) seen) (leads b runs)
times-behinds b seen [] = grind arith
times-behinds b seen (r ∷ rest) =
    let known = times-behinds b seen rest in
    let new = times-behinds b (seen ++ r.behind ∷ []) rest in
    grind (arith, list_any-append, is_same_tree-true b r.behind, known, new)

-- what comes behind a number is listed once: as the rest, or before it
pub behind-once : (word mask : ℕ) (t rest : Tree) (n : ℕ) (runs : List RunData) → AreRuns word mask t 0 runs
    → times (behind word t n) (behinds_after (rest ∷ []) runs)
    + (if is_same_tree (behind word t n) rest then 1 else 0) ≡ 1
behind-once word mask t rest n runs are =
    grind (arith, times-behinds (behind word t n) (rest ∷ []) runs, leads-on word mask t n 0 runs (omega arith) are)

-- ---- what holds of all that comes behind runs

pub behinds-all : (P : Tree → Type 0) (seen : List Tree) (runs : List RunData) → All (λ r. P r.behind) runs
    → All P (behinds_after seen runs)
behinds-all P seen [] h = All-nil P
behinds-all P seen (r ∷ rest) h =
    let later = All-tail (λ (q : RunData). P q.behind) r rest h in
    cond_both (list_any (is_same_tree r.behind) seen) _ _ (λ (us : List Tree). All P us)
    (λ _. behinds-all P seen rest later)
    (λ _. All-cons P r.behind _ (h 0 r (omega arith)) (behinds-all P (seen ++ r.behind ∷ []) rest later))

longest-one : (P : Tree → Type 0) (best : RunData) (runs : List RunData) → P best.behind → All (λ r. P r.behind) runs
    → P (longest_of best runs)
longest-one P best [] h hs = h
longest-one P best (r ∷ rest) h hs =
    longest-one P (if nat_le (best.last - best.first) (r.last - r.first) then r else best) rest
    (cond_both (nat_le (best.last - best.first) (r.last - r.first)) r best (λ (q : RunData). P q.behind)
    (λ _. hs 0 r (omega arith)) (λ _. h)) (All-tail (λ (q : RunData). P q.behind) r rest hs)

pub rest-one : (P : Tree → Type 0) (runs : List RunData) → 0 < length runs → All (λ r. P r.behind) runs
    → P (rest_in runs)
rest-one P [] l hs = absurd (omega arith)
rest-one P (r ∷ rest) l hs = longest-one P r rest (hs 0 r l) (All-tail (λ q. P q.behind) r rest hs)

-- ---- what the parts of a word have in common, however it is listed

-- behind a number that a part has comes this tree
abbrev pub LeadsTo : Tree → ℕ → PartData → Type 0
LeadsTo b n p = form_has p.form n ≡ true → p.behind ≡ b

-- some number of a word is written so
abbrev pub HasNumber : PartData → Type 0
HasNumber p = (n : ℕ) × (n < 2 ^ 32) × (form_has p.form n ≡ true)

-- how many parts have a number
abbrev pub holders : ℕ → List PartData → ℕ
holders n ps = counted (λ p. form_has p.form n) ps

-- each number is in one part, which tells what comes behind it, and each part has a number
pub record AreParts (word : ℕ) (t : Tree) (ps : List PartData) : Type 0 where
  pub once : (n : ℕ) → holders n ps ≡ 1
  pub lead : (n : ℕ) → All (LeadsTo (behind word t n) n) ps
  pub some : All HasNumber ps

-- ---- where runs begin

-- a run has its first number, and behind this comes what the run says
abbrev BeginsRight : ℕ → ℕ → Tree → RunData → Type 0
BeginsRight word mask t r =
    (bit_and r.first mask ≡ r.first) × (r.first ≤ r.last) × (r.first < 2 ^ 32) × (behind word t r.first ≡ r.behind)

begin-right : (word mask : ℕ) (t : Tree) (p : ℕ) (runs : List RunData) → mask < 2 ^ 32 → AreRuns word mask t p runs
    → All (BeginsRight word mask t) runs
begin-right word mask t p [] small are = All-nil (BeginsRight word mask t)
begin-right word mask t p (r ∷ rest) small are =
    let begin : bit_and r.first mask ≡ r.first = are.2 in
    let here = are.3 r.first (omega (arith, are.0)) (omega (arith, are.1)) in
    let one : BeginsRight word mask t r = (begin, are.1, omega (arith, and_le_r r.first mask), here.1) in
    All-cons (BeginsRight word mask t) r rest one (begin-right word mask t (suc r.last) rest small are.4)

-- the tree comes behind some number of a word
abbrev Reached : ℕ → Tree → Tree → Type 0
Reached word t s = (n : ℕ) × (n < 2 ^ 32) × (behind word t n ≡ s)

-- ---- parts of one span

-- a run that stands apart
abbrev apart_part : ℕ → RunData → PartData
apart_part mask r = span_part mask r.first r.last r.behind

holder-apart : (word mask : ℕ) (t : Tree) (n p : ℕ) (runs : List RunData) → AreRuns word mask t p runs
    → (bit_and n mask < p → holders n (map (apart_part mask) runs) ≡ 0)
    × (p ≤ bit_and n mask → holders n (map (apart_part mask) runs) ≡ 1)
    × All (LeadsTo (behind word t n) n) (map (apart_part mask) runs)
holder-apart word mask t n p [] are = (λ _. refl, λ from. absurd (are n from), All-nil (LeadsTo (behind word t n) n))
holder-apart word mask t n p (r ∷ rest) are =
    let later = holder-apart word mask t n (suc r.last) rest are.4 in (
      λ less. grind (arith, nat_tests),
      λ from. grind (arith, nat_tests),
      All-cons (LeadsTo (behind word t n) n) (apart_part mask r) (map (apart_part mask) rest)
          (λ has. grind (arith, nat_tests)) later.2,
    )

-- ---- joined parts

holder-joined : (word mask : ℕ) (t rest : Tree) (n : ℕ) (runs : List RunData) (ss : List Tree)
    → AreRuns word mask t 0 runs
    → (holders n (map (part_in mask runs false) ss ++ part_in mask runs true rest ∷ [])
    ≡ times (behind word t n) ss + (if is_same_tree (behind word t n) rest then 1 else 0))
    × All (LeadsTo (behind word t n) n) (map (part_in mask runs false) ss ++ part_in mask runs true rest ∷ [])
holder-joined word mask t rest n runs [] are =
    let here = form-has word mask t rest true n runs are in
    let same = is_same_tree-true (behind word t n) rest in (
      grind (arith, here),
      All-cons (LeadsTo (behind word t n) n) (part_in mask runs true rest) [] (λ has. grind (arith, same, here, has))
          (All-nil (LeadsTo (behind word t n) n)),
    )
holder-joined word mask t rest n runs (s ∷ ss) are =
    let later = holder-joined word mask t rest n runs ss are in
    let here = form-has word mask t s false n runs are in
    let same = is_same_tree-true (behind word t n) s in (
      grind (arith, here, later.0),
      All-cons (LeadsTo (behind word t n) n) (part_in mask runs false s) _
          (λ has. grind (arith, same, here, has)) later.1,
    )

-- the parts by runs, apart or joined
pub runs-listed-right : (word : ℕ) (apart : Bool) (t : Tree) → IsOrderedFrom (32 * word) t
    → AreParts word t (if apart then map (apart_part (mask_in word t)) (runs_in word t)
    else joined_parts (mask_in word t) (runs_in word t))
runs-listed-right word apart t o =
    let mask : ℕ = mask_in word t in
    let runs : List RunData = runs_in word t in
    let rest : Tree = rest_in runs in
    let are : AreRuns word mask t 0 runs = runs_in-right word t o in
    let begin : All (BeginsRight word mask t) runs = begin-right word mask t 0 runs (mask-small word t) are in
    let reached : All (λ (r : RunData). Reached word t r.behind) runs
    = All-weaker (BeginsRight word mask t) (λ (r : RunData). Reached word t r.behind)
    (λ r h. (r.first, h.2, h.3)) runs begin in
    cond_both apart _ _ (AreParts word t)
    (λ _. record {
      once = λ n. (holder-apart word mask t n 0 runs are).1 (omega arith);
      lead = λ n. (holder-apart word mask t n 0 runs are).2;
      some = All-map HasNumber (apart_part mask) runs
          (All-weaker (BeginsRight word mask t) (λ (r : RunData). HasNumber (apart_part mask r))
          (λ r h. (r.first, h.2, grind (arith, nat_tests, h.0, h.1))) runs begin);
    })
    (λ _. record {
      once = λ n. (holder-joined word mask t rest n runs _ are).0 ∙ behind-once word mask t rest n runs are;
      lead = λ n. (holder-joined word mask t rest n runs _ are).1;
      some = All-push HasNumber (map (part_in mask runs false) _) (part_in mask runs true rest)
          (All-map HasNumber (part_in mask runs false) _
          (All-weaker (Reached word t) (λ (s : Tree). HasNumber (part_in mask runs false s))
          (joined-some word mask t false runs are) _ (behinds-all (Reached word t) (rest ∷ []) runs reached)))
          (joined-some word mask t true runs are rest
          (rest-one (Reached word t) runs (runs-length word mask 32 0 t []).1 reached));
    })
  where
    joined-some : (word mask : ℕ) (t : Tree) (without : Bool) (runs : List RunData) → AreRuns word mask t 0 runs
        → (s : Tree) → Reached word t s → HasNumber (part_in mask runs without s)
    joined-some word mask t without runs are s h =
        (h.0, h.1, form-has word mask t s without h.0 runs are ∙ rw h.2 (is_same_tree-self s))
