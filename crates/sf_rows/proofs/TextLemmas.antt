-- Texts with something between them, added one after the other.
use Rattle.sf_rows.proofs.Common.{◌≡◌, ℕ, ◌<◌, ◌+◌, Bool, true, false, List, [], ◌∷◌, ◌++◌, append_assoc, refl, sym, ap, ◌∙◌, drop, get_or, length, map, codes, Bor, list_any, drop_more, ConditionData, condition_words, further, is_on, joined, ◌||◌}

-- one more text was added, before those that are left
joined-first : (next text before middle after more : List ℕ) (left : List (List ℕ)) → middle ≡ text ++ before
    → after ≡ middle ++ more → after ++ joined next next left ≡ text ++ joined before next (more ∷ left)
joined-first next text before middle after more left p q = rw (q, p) (simp append_assoc)

-- one more element was shown
pub joined-more : {X : Type 0} (f : X → List ℕ) (next text before middle after whole : List ℕ) (xs : List X) (i : ℕ)
    (d x : X) → i < length xs → x ≡ get_or xs i d → middle ≡ text ++ before → after ≡ middle ++ f x
    → text ++ joined before next (map f (drop i xs)) ≡ whole
    → after ++ joined next next (map f (drop (i + 1) xs)) ≡ whole
joined-more f next text before middle after whole xs i d x lt is p q h =
    joined-first next text before middle after (f x) (map f (drop (i + 1) xs)) p q
    ∙ (rw (drop_more xs i d lt, sym is) at h)

-- a condition that stands behind `arch` or `nr`
abbrev pub is_placed : ConditionData → Bool
is_placed c = is_on 18 c || is_on 19 c

-- one more condition was shown
pub further-shown : (text before middle after whole : List ℕ) (cs : List ConditionData) (i : ℕ) (c : ConditionData)
    → i < length cs → c ≡ get_or cs i c → is_placed c ≡ false → middle ≡ text ++ before
    → after ≡ middle ++ condition_words c
    → text ++ joined before (codes " and ") (map condition_words (further (drop i cs))) ≡ whole
    → after ++ joined (codes " and ") (codes " and ") (map condition_words (further (drop (i + 1) cs))) ≡ whole
further-shown text before middle after whole cs i c lt is off p q h =
    joined-first (codes " and ") text before middle after (condition_words c)
    (map condition_words (further (drop (i + 1) cs))) p q
    ∙ (rw (drop_more cs i c lt, sym is, off) at h)

-- one more condition was passed over
pub further-placed : (text before whole : List ℕ) (cs : List ConditionData) (i : ℕ) (c : ConditionData)
    → i < length cs → c ≡ get_or cs i c → is_placed c ≡ true
    → text ++ joined before (codes " and ") (map condition_words (further (drop i cs))) ≡ whole
    → text ++ joined before (codes " and ") (map condition_words (further (drop (i + 1) cs))) ≡ whole
further-placed text before whole cs i c lt is on h = rw (drop_more cs i c lt, sym is, on) at h

-- one of some texts, over the texts themselves
pub any_now : {X : Type 0} (p : X → Bool) (bs : List (Bor X))
    → list_any (λ b. p b.now) bs ≡ list_any p (map (λ b. b.now) bs)
any_now p [] = refl
any_now p (b ∷ bs) = ap (λ (t : Bool). p b.now || t) (any_now p bs)
