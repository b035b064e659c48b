-- The code goes over ids of nodes, the definitions over trees.
use Rattle.sf_parts.proofs.Common.{common_steps, ◌≡◌, ℕ, ◌+◌, ◌<◌, ◌==◌, Bool, List, [], ◌∷◌, ◌++◌, length, map, drop, get_or, drop-cons, refl, ap₂, ◌∙◌, arith, ◌||◌, not, All, if◌then◌else◌, list_any, cond_both, All-cons, All-tail, All-push, Tree, tree_at, AreCanonical, is_same_tree, RunData, spans_of, behinds_after, run_seen, Span, Run}
use Rattle.sf_parts.proofs.word.WordLemmas.{same-ids}

-- ---- nodes and their trees, as the code goes over them

pub runs-ahead : (ts : List Tree) (runs : List Run) (i : ℕ) (d : Run) → i < length runs
    → map (run_seen ts) (drop i runs) ≡ run_seen ts (get_or runs i d) ∷ map (run_seen ts) (drop (i + 1) runs)
runs-ahead ts runs i d l = grind (arith, common_steps, drop-cons runs i d l)

-- the ids are those of nodes
abbrev pub AreNodes : List Tree → List ℕ → Type 0
AreNodes ts ids = All (λ b. b < length ts) ids

-- the runs lead to nodes
abbrev pub LeadToNodes : List Tree → List Run → Type 0
LeadToNodes ts runs = All (λ r. r.behind < length ts) runs

-- a node is among others where its tree is among theirs
pub known-trees : (ts : List Tree) (ids : List ℕ) (b : ℕ) → AreCanonical ts → b < length ts → AreNodes ts ids
    → list_any (λ c. b == c) ids ≡ list_any (is_same_tree (tree_at ts b)) (map (tree_at ts) ids)
known-trees ts [] b canonical l kept = refl
known-trees ts (c ∷ ids) b canonical l kept =
    ap₂ (λ (x y : Bool). x || y) (same-ids ts b c canonical l (kept 0 c (omega arith)))
    (known-trees ts ids b canonical l (All-tail (λ c. c < length ts) c ids kept))

pub spans-more : (ts : List Tree) (runs : List Run) (i : ℕ) (d : Run) (b : ℕ) (without meant : Bool)
    (spans new all : List Span) → AreCanonical ts → i < length runs → LeadToNodes ts runs → b < length ts
    → meant ≡ (if without then not ((get_or runs i d).behind == b) else (get_or runs i d).behind == b)
    → new ≡ spans
    ++ (if meant then record { first = (get_or runs i d).first; last = (get_or runs i d).last } ∷ [] else [])
    → spans ++ spans_of (map (run_seen ts) (drop i runs)) (tree_at ts b) without ≡ all
    → new ++ spans_of (map (run_seen ts) (drop (i + 1) runs)) (tree_at ts b) without ≡ all
spans-more ts runs i d b without meant spans new all canonical l kept within e added so_far =
    let same = same-ids ts (get_or runs i d).behind b canonical (kept i d l) within in
    grind (arith, common_steps, runs-ahead ts runs i d l, same)

-- ---- what comes behind runs, each once

-- what is known, and what is new in later runs
abbrev known_and_new : List Tree → ℕ → List ℕ → List RunData → List Tree
known_and_new ts rest known later =
    map (tree_at ts) known ++ behinds_after (tree_at ts rest ∷ map (tree_at ts) known) later

known-step : (ts : List Tree) (rest b : ℕ) (known : List ℕ) (later : List RunData) (x y : Bool) → x ≡ y
    → known_and_new ts rest (if x then known else known ++ b ∷ []) later
    ≡ map (tree_at ts) known
    ++ (if y then behinds_after (tree_at ts rest ∷ map (tree_at ts) known) later
    else tree_at ts b ∷ behinds_after (tree_at ts rest ∷ (map (tree_at ts) known ++ tree_at ts b ∷ [])) later)
known-step ts rest b known later x y e = grind (arith, common_steps)

pub known-more : (ts : List Tree) (runs : List Run) (i : ℕ) (d : Run) (rest : ℕ) (known new : List ℕ) (all : List Tree)
    → AreCanonical ts → i < length runs → LeadToNodes ts runs → rest < length ts → AreNodes ts known
    → new ≡ (if (get_or runs i d).behind == rest || list_any (λ b. (get_or runs i d).behind == b) known
    then known else known ++ (get_or runs i d).behind ∷ [])
    → known_and_new ts rest known (map (run_seen ts) (drop i runs)) ≡ all
    → AreNodes ts new × (known_and_new ts rest new (map (run_seen ts) (drop (i + 1) runs)) ≡ all)
known-more ts runs i d rest known new all canonical l kept within few e so_far =
    let b : ℕ = (get_or runs i d).behind in
    let x : Bool = list_any (λ c. b == c) (rest ∷ known) in (
      rw e (cond_both x known (known ++ b ∷ []) (AreNodes ts) (λ _. few)
          (λ _. All-push (λ (c : ℕ). c < length ts) known b few (kept i d l))),
      rw e (known-step ts rest b known _ x _ (known-trees ts (rest ∷ known) b canonical (kept i d l)
          (All-cons (λ (c : ℕ). c < length ts) rest known within few))
          ∙ rw (runs-ahead ts runs i d l) at so_far),
    )
