-- The definitions over trees, at the lists that the code goes through.
use Rattle.sf_profile.proofs.Common.{◌≡◌, ℕ, ◌+◌, ◌<◌, Bool, List, [], ◌∷◌, length, get_or, drop, map, refl, ap, ◌∙◌, String, string_bytes, Global, Bor, list_any, list_all, drop_more, list_all-map, keys_of, bytes_eq, Data, view, members_view, Value, items_in, all_keys, text_in}
use Rattle.std.proofs.Common.{◌&&◌, ◌||◌}
use Rattle.serde_json.specs.View.{items_view}

pub any_map : {A B : Type 0} (f : A → B) (test : B → Bool) (xs : List A)
    → list_any test (map f xs) ≡ list_any (λ x. test (f x)) xs
any_map f test [] = refl
any_map f test (x ∷ xs) = ap (λ b. test (f x) || b) (any_map f test xs)

pub any_now : (text : List ℕ) (known : List (Bor (List ℕ)))
    → list_any (bytes_eq text) (map (λ k. k.now) known) ≡ list_any (λ k. bytes_eq text k.now) known
any_now text known = any_map (λ (k : Bor (List ℕ)). k.now) (bytes_eq text) known

pub keys_view : (test : List ℕ → Bool) (es : List (String Global × Value))
    → all_keys test (members_view es) ≡ list_all (λ key. test (string_bytes key)) (keys_of es)
keys_view test [] = refl
keys_view test (e ∷ es) = ap (λ b. test (string_bytes e.0) && b) (keys_view test es)

pub only_view : (known : List (Bor (List ℕ))) (es : List (String Global × Value))
    → all_keys (λ key. list_any (bytes_eq key) (map (λ k. k.now) known)) (members_view es)
    ≡ list_all (λ key. list_any (λ k. bytes_eq (string_bytes key) k.now) known) (keys_of es)
only_view known [] = refl
only_view known (e ∷ es) = rw (any_now (string_bytes e.0) known, only_view known es) refl

pub listed_view : (vs : List Value) → items_in (items_view vs) ≡ map view vs
listed_view [] = refl
listed_view (v ∷ vs) = ap (λ ds. view v ∷ ds) (listed_view vs)

-- one text more
pub all_more : (test : List ℕ → Bool) (vs : List Value) (i : ℕ) (v : Value) → i < length vs
    → list_all test (map text_in (map view (drop i vs)))
    ≡ (test (text_in (view (get_or vs i v))) && list_all test (map text_in (map view (drop (i + 1) vs))))
all_more test vs i v h = rw (drop_more vs i v h) refl

-- ---- what holds of items, said of what they are seen as

pub all_items : (test : Data → Bool) (vs : List Value) → list_all test (map view vs) ≡ list_all (λ v. test (view v)) vs
all_items test vs = list_all-map test view vs

pub all_entries : (test : Data → Bool) (vs : List Value)
    → list_all test (items_in (items_view vs)) ≡ list_all (λ v. test (view v)) vs
all_entries test vs = ap (list_all test) (listed_view vs) ∙ all_items test vs

pub all_text : (test : List ℕ → Bool) (vs : List Value)
    → list_all test (map text_in (map view vs)) ≡ list_all (λ v. test (text_in (view v))) vs
all_text test vs = list_all-map test text_in (map view vs) ∙ all_items (λ d. test (text_in d)) vs

pub any_text : (test : List ℕ → Bool) (vs : List Value)
    → list_any test (map text_in (map view vs)) ≡ list_any (λ v. test (text_in (view v))) vs
any_text test vs = any_map text_in test (map view vs) ∙ any_map view (λ d. test (text_in d)) vs
