-- The rows of a tree: each input is in one, which has its number, unless this is hidden; and each row has an input.
use Rattle.sf_parts.proofs.Common.{nat_tests, ◌≡◌, ◌≢◌, ℕ, zero, suc, ◌+◌, ◌*◌, ◌/◌, ◌%◌, ◌-◌, ◌^◌, ◌<◌, ◌≤◌, ◌==◌, Bool, true, false, List, [], ◌∷◌, ◌++◌, length, map, take, get_or, refl, sym, ap, ap₂, subst, ◌∙◌, inl, inr, arith, lit≤, ◌&&◌, All, not, if◌then◌else◌, ◌⊎◌, flat_map, list_all, bit_at, cases_Bool, cond_both, eq-eqb, ne_eqb, and_from, bit_at-lt, length-map, get_or-map, take_more, flat_map_more, length-append, All-nil, All-cons, All-tail, All-append, length-flat_map-take, mod-eq_of_lt, mod-one, Tree, Leaf, Fork, Bits, value, IsOrderedFrom, tree_at, behind, low_number, word_number, EndsBefore, PartData, form_has, parts_in, ConditionData, RowData, meets, is_in_row, rows_under, IsCrowded, StoredPart, part_seen, low-more, behind-below, behind-ordered, crowded_behind}
use Rattle.sf_parts.proofs.word.WordLemmas.{value-behind}
use Rattle.sf_parts.proofs.parts.PartLemmas.{LeadsTo, HasNumber, counted, counted-append, holders, AreParts}
use Rattle.sf_parts.proofs.WayLemmas.{parts_in-right}

-- a tree that does not test a word first tests later words only
pub later-ordered : (word v : ℕ) (p q : Tree) → IsOrderedFrom (32 * word) (Fork v p q) → (v / 32 == word) ≡ false
    → IsOrderedFrom (32 * suc word) (Fork v p q)
later-ordered word v p q o out = (grind (arith, nat_tests, o.0), o.1, o.2)

-- the rows behind a part
abbrev pub rows_behind : ℕ → ℕ → ℕ → ℕ → List ConditionData → PartData → List RowData
rows_behind apart hidden n word cs p =
    rows_under apart hidden n (suc word) p.behind (cs ++ record { word = word; form = p.form } ∷ [])

-- ---- how many rows an input is in

-- how many rows have the input, and a number that passes a test
abbrev pub hits : Bits → (ℕ → Bool) → List RowData → ℕ
hits bits test rows = counted (λ r. is_in_row bits r && test r.number) rows

-- one more condition
meets-more : (bits : Bits) (cs : List ConditionData) (c : ConditionData)
    → list_all (meets bits) (cs ++ c ∷ []) ≡ (list_all (meets bits) cs && meets bits c)
meets-more bits [] c = grind arith
meets-more bits (d ∷ cs) c = grind (arith, meets-more bits cs c)

each-one : (P : PartData → Type 0) (bits : Bits) (test : ℕ → Bool) (rows : PartData → List RowData) (n : ℕ) (x : Bool)
    → ((p : PartData) → P p → hits bits test (rows p) ≡ (if form_has p.form n && x then 1 else 0))
    → (ps : List PartData) → All P ps → hits bits test (flat_map rows ps) ≡ (if x then holders n ps else 0)
each-one P bits test rows n x one [] all = grind arith
each-one P bits test rows n x one (p ∷ ps) all =
    let later = each-one P bits test rows n x one ps (All-tail P p ps all) in
    let sum = counted-append (λ (r : RowData). is_in_row bits r && test r.number) (rows p) (flat_map rows ps) in
    grind (arith, sum, one p (all 0 p (omega arith)), later)

-- whether a number is not hidden, and passes a test
abbrev pub shown : ℕ → (ℕ → Bool) → ℕ → Bool
shown hidden test m = not (m == hidden) && test m

-- an input that meets the conditions is in one row, which has its number, unless this is hidden
pub rows-right : (apart hidden n word : ℕ) (t : Tree) (cs : List ConditionData) (bits : Bits) (test : ℕ → Bool)
    → IsOrderedFrom (32 * word) t → EndsBefore (32 * (word + n)) t
    → hits bits test (rows_under apart hidden n word t cs)
    ≡ (if list_all (meets bits) cs && shown hidden test (value t bits) then 1 else 0)
unfolding rows_under
rows-right apart hidden n word (Leaf c) cs bits test o h = grind arith
rows-right apart hidden zero word (Fork v p q) cs bits test o h = absurd (omega (arith, o.0, h.0))
rows-right apart hidden (suc n) word (Fork v p q) cs bits test o h =
    let t : Tree = Fork v p q in
    let below : EndsBefore (32 * (suc word + n)) t = subst (λ (m : ℕ). EndsBefore m t) (omega arith) h in
    let i : ℕ = word_number word bits in
    let x : Bool = list_all (meets bits) cs && shown hidden test (value t bits) in
    let right : AreParts word t (parts_in word (word == apart) t) = parts_in-right word (word == apart) t o in
    cond_both (v / 32 == word) _ _ (λ rows. hits bits test rows ≡ (if x then 1 else 0))
    (λ _. each-one (λ p. LeadsTo (behind word t i) i p × ((m : ℕ) × (behind word t m ≡ p.behind))) bits test
    (rows_behind apart hidden n word cs) i x
    (λ p lead.
    let c : ConditionData = record { word = word; form = p.form } in
    let more = meets-more bits cs c in
    let m : ℕ = lead.1.0 in
    let one : behind word t m ≡ p.behind = lead.1.1 in
    let ordered = rw one at (behind-ordered word t m (32 * word) (omega arith) o) in
    let ends = rw one at (behind-below word (32 * (suc word + n)) t m below) in
    let later = rows-right apart hidden n (suc word) p.behind (cs ++ c ∷ []) bits test ordered ends in
    elim (cases_Bool (form_has p.form i)) [
      | inl has ↦ (let same = lead.0 has in grind (arith, more, has, same, value-behind word t bits, later))
      | inr other ↦ grind (arith, more, other, later)
    ])
    _ (λ k d l.
    let some = right.some k d l in
    (right.lead i k d l, (some.0, sym (right.lead some.0 k d l some.2))))
    ∙ ap (λ (m : ℕ). if x then m else 0) (right.once i))
    (λ out. rows-right apart hidden n (suc word) t cs bits test (later-ordered word v p q o out) below)

-- ---- an input of each row

-- an input in which a word has a number
abbrev put : ℕ → ℕ → Bits → Bits
put word m bits v = if v / 32 == word then bit_at m (31 - v % 32) == 1 else bits v

put-own : (word m : ℕ) (bits : Bits) (k : ℕ) → k ≤ 32 → low_number word k (put word m bits) ≡ m % 2 ^ k
unfolding low_number
put-own word m bits zero le = sym (mod-one m)
put-own word m bits (suc k) le =
    grind (arith, nat_tests, bit_at-lt m k, low-more m k, put-own word m bits k (omega arith))

put-other : (word w m : ℕ) (bits : Bits) (k : ℕ) → w ≢ word → k ≤ 32
    → low_number w k (put word m bits) ≡ low_number w k bits
unfolding low_number
put-other word w m bits zero ne le = refl
put-other word w m bits (suc k) ne le = grind (arith, nat_tests, put-other word w m bits k ne (omega arith))

-- the conditions are on words before this one
abbrev AreBefore : ℕ → List ConditionData → Type 0
AreBefore word [] = Unit {0}
AreBefore word (c ∷ cs) = (c.word < word) × AreBefore word cs

before-later : (word : ℕ) (cs : List ConditionData) → AreBefore word cs → AreBefore (suc word) cs
before-later word [] h = tt
before-later word (c ∷ cs) h = (omega (arith, h.0), before-later word cs h.1)

before-more : (word : ℕ) (cs : List ConditionData) (c : ConditionData) → AreBefore word cs → c.word ≡ word
    → AreBefore (suc word) (cs ++ c ∷ [])
before-more word [] c h e = (omega arith, tt)
before-more word (d ∷ cs) c h e = (omega (arith, h.0), before-more word cs c h.1 e)

-- conditions on earlier words are met as before
put-meets : (word m : ℕ) (bits : Bits) (cs : List ConditionData) → AreBefore word cs
    → list_all (meets (put word m bits)) cs ≡ list_all (meets bits) cs
put-meets word m bits [] h = refl
put-meets word m bits (c ∷ cs) h =
    ap₂ (λ (i : ℕ) (b : Bool). form_has c.form i && b)
    (put-other word c.word m bits 32 (λ e. omega (arith, h.0)) (lit≤ tt)) (put-meets word m bits cs h.1)

abbrev pub HasInput : RowData → Type 0
HasInput r = (bits : Bits) × (is_in_row bits r ≡ true)

all-flat : (P : RowData → Type 0) (rows : PartData → List RowData) (ps : List PartData) → All (λ p. All P (rows p)) ps
    → All P (flat_map rows ps)
all-flat P rows [] h = All-nil P
all-flat P rows (p ∷ ps) h =
    All-append P (rows p) (flat_map rows ps) (h 0 p (omega arith))
    (all-flat P rows ps (All-tail (λ q. All P (rows q)) p ps h))

-- each row under conditions that some input meets has an input
pub rows-some : (apart hidden n word : ℕ) (t : Tree) (cs : List ConditionData) (bits : Bits)
    → IsOrderedFrom (32 * word) t → AreBefore word cs → list_all (meets bits) cs ≡ true
    → All HasInput (rows_under apart hidden n word t cs)
unfolding rows_under
rows-some apart hidden n word (Leaf c) cs bits o before met =
    cond_both {A = List RowData} (c == hidden) [] _ (λ rows. All HasInput rows) (λ _. All-nil HasInput)
    (λ _. All-cons HasInput _ [] (bits, met) (All-nil HasInput))
rows-some apart hidden zero word (Fork v p q) cs bits o before met = All-nil HasInput
rows-some apart hidden (suc n) word (Fork v p q) cs bits o before met =
    let t : Tree = Fork v p q in
    let ps : List PartData = parts_in word (word == apart) t in
    let right : AreParts word t ps = parts_in-right word (word == apart) t o in
    cond_both (v / 32 == word) (flat_map (rows_behind apart hidden n word cs) ps)
    (rows_under apart hidden n (suc word) t cs) (λ rows. All HasInput rows)
    (λ _. all-flat HasInput (rows_behind apart hidden n word cs) ps (λ k d l.
    let some : HasNumber (get_or ps k d) = right.some k d l in
    let m : ℕ = some.0 in
    let c : ConditionData = record { word = word; form = (get_or ps k d).form } in
    let own : word_number word (put word m bits) ≡ m
    = put-own word m bits 32 (lit≤ tt) ∙ mod-eq_of_lt some.1 in
    rows-some apart hidden n (suc word) (get_or ps k d).behind (cs ++ c ∷ []) (put word m bits)
    (subst (IsOrderedFrom (32 * suc word)) (sym (right.lead m k d l some.2))
    (behind-ordered word t m (32 * word) (omega arith) o))
    (before-more word cs c before refl)
    (meets-more (put word m bits) cs c ∙ and_from _ _ (put-meets word m bits cs before ∙ met)
    (ap (λ (i : ℕ). form_has c.form i) own ∙ some.2))))
    (λ out. rows-some apart hidden n (suc word) t cs bits (later-ordered word v p q o out)
    (before-later word cs before) met)

-- ---- the rows as the code makes them

-- the rows of a fork
pub rows-by : (apart hidden n word v : ℕ) (p q : Tree) (cs : List ConditionData)
    → rows_under apart hidden n word (Fork v p q) cs
    ≡ (if n == 0 then [] else if v / 32 == word
    then flat_map (rows_behind apart hidden (n - 1) word cs) (parts_in word (word == apart) (Fork v p q))
    else rows_under apart hidden (n - 1) (word + 1) (Fork v p q) cs)
unfolding rows_under
rows-by apart hidden zero word v p q cs = refl
rows-by apart hidden (suc n) word v p q cs =
    let back : suc n - 1 ≡ n = omega arith in
    let next : word + 1 ≡ suc word = omega arith in
    rw (back, next, ne_eqb (suc n) 0 (λ e. absurd (omega arith))) refl

pub rows-inside : (apart hidden left n word v : ℕ) (t p q : Tree) (cs : List ConditionData) → left ≡ suc n
    → t ≡ Fork v p q → v / 32 ≡ word
    → rows_under apart hidden left word t cs
    ≡ flat_map (rows_behind apart hidden n word cs) (parts_in word (word == apart) t)
unfolding rows_under
rows-inside apart hidden left n word v t p q cs e is here = rw (e, is, eq-eqb (v / 32) word here) refl

-- one part more
pub rows-step : (apart hidden n word next i : ℕ) (ts : List Tree) (cs pushed : List ConditionData)
    (parts : List StoredPart) (p : StoredPart) (listed : List PartData) (before old new : List RowData)
    → i < length parts → p ≡ get_or parts i p → next ≡ suc word → map (part_seen ts) parts ≡ listed
    → old ≡ before ++ flat_map (rows_behind apart hidden n word cs) (take i listed)
    → pushed ≡ cs ++ record { word = word; form = p.form } ∷ []
    → new ≡ old ++ rows_under apart hidden n next (tree_at ts p.behind) pushed
    → new ≡ before ++ flat_map (rows_behind apart hidden n word cs) (take (i + 1) listed)
rows-step apart hidden n word next i ts cs pushed parts p listed before old new l is following seen so_far grown added =
    let s : PartData = part_seen ts p in
    let one : get_or listed i s ≡ s
    = rw (← seen) (get_or-map (part_seen ts) parts i p s l ∙ ap (part_seen ts) (sym is)) in
    rw (added, so_far, following, grown)
    (flat_map_more (rows_behind apart hidden n word cs) before (take i listed) s
    ∙ rw (take_more listed i s (omega (arith, length-map parts (part_seen ts), ap length seen)), one) refl)

-- ---- rows come to an end only where there would be too many of them, or a word is tested too often

-- there would be more rows than a limit beside others, or a word is tested too often
abbrev pub IsOver : ℕ → ℕ → ℕ → List RowData → Tree → Type 0
IsOver most limit others rows t = (most < others + length rows) ⊎ IsCrowded limit t

-- where the rows behind one part are too many, all are
pub step-over : (most limit others apart hidden left n word next v i : ℕ) (ts : List Tree) (t l r : Tree)
    (cs pushed : List ConditionData) (parts : List StoredPart) (p : StoredPart) (before old : List RowData)
    → left ≡ suc n → next ≡ suc word → t ≡ Fork v l r → v / 32 ≡ word → i < length parts → p ≡ get_or parts i p
    → map (part_seen ts) parts ≡ parts_in word (word == apart) t
    → old ≡ before ++ flat_map (rows_behind apart hidden n word cs) (take i (parts_in word (word == apart) t))
    → others ≡ length before → pushed ≡ cs ++ record { word = word; form = p.form } ∷ []
    → (IsOrderedFrom (32 * next) (tree_at ts p.behind)
    → IsOver most limit (length old) (rows_under apart hidden n next (tree_at ts p.behind) pushed)
    (tree_at ts p.behind))
    → IsOrderedFrom (32 * word) t → IsOver most limit others (rows_under apart hidden left word t cs) t
step-over most limit others apart hidden left n word next v i ts t l r cs pushed parts p before old e
    following is here less same seen so_far count grown h o =
    let ps : List PartData = parts_in word (word == apart) t in
    let s : PartData = part_seen ts p in
    let within : i < length ps = omega (arith, length-map parts (part_seen ts), ap length seen) in
    let one : get_or ps i s ≡ s
    = rw (← seen) (get_or-map (part_seen ts) parts i p s less ∙ ap (part_seen ts) (sym same)) in
    let right : AreParts word t ps = parts_in-right word (word == apart) t o in
    let some : HasNumber s = subst HasNumber one (right.some i s within) in
    let leads : s.behind ≡ behind word t some.0
    = subst (λ (q : PartData). LeadsTo (behind word t some.0) some.0 q) one (right.lead some.0 i s within) some.2 in
    let ordered : IsOrderedFrom (32 * next) (tree_at ts p.behind)
    = rw (following, leads) (behind-ordered word t some.0 (32 * word) (omega arith) o) in
    let rows : PartData → List RowData = rows_behind apart hidden n word cs in
    let parted = length-flat_map-take rows ps i s within in
    let first = ap length so_far ∙ length-append before (flat_map rows (take i ps)) in
    let whole = ap length (rows-inside apart hidden left n word v t l r cs e is here) in
    let made = ap (λ (q : PartData). length (rows q)) one in
    let given = ap₂ (λ (m : ℕ) (ds : List ConditionData). length (rows_under apart hidden n m (tree_at ts p.behind) ds))
    following grown in
    elim (h ordered) [
      | inl more ↦ inl (omega arith)
      | inr crowded ↦ inr (crowded_behind limit word t some.0 (subst (IsCrowded limit) leads crowded))
    ]
