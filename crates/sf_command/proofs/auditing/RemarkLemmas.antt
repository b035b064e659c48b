-- The remarks on replies, one more at a time.
use Rattle.sf_command.proofs.Common.{◌≡◌, List, [], ◌∷◌, ◌++◌, ℕ, ◌+◌, ◌<◌, get_or, length, map, take, map-append, take_more, Insn, Reply, NamesData, AreRemarks, IsRemark}

one_more_remark : (names : List NamesData) (programs : List (List Insn)) (replies : List Reply) (reply : Reply)
    (remarks : List (List ℕ)) (remark : List ℕ) → AreRemarks names programs replies remarks
    → IsRemark names programs reply remark → AreRemarks names programs (replies ++ reply ∷ []) (remarks ++ remark ∷ [])
one_more_remark names programs [] reply [] remark are is = (is, tt)
one_more_remark names programs (r ∷ rs) reply (m ∷ ms) remark (first, others) is =
    (first, one_more_remark names programs rs reply ms remark others is)
one_more_remark names programs [] reply (m ∷ ms) remark are is = absurd are
one_more_remark names programs (r ∷ rs) reply [] remark are is = absurd are

-- the remark on one more reply was added
pub more_remarks : {X : Type 0} (f : X → List ℕ) (names : List NamesData) (programs : List (List Insn))
    (replies : List Reply) (i : ℕ) (d : Reply) (items after : List X) (remark : X) → i < length replies
    → after ≡ items ++ remark ∷ [] → AreRemarks names programs (take i replies) (map f items)
    → IsRemark names programs (get_or replies i d) (f remark)
    → AreRemarks names programs (take (i + 1) replies) (map f after)
more_remarks f names programs replies i d items after remark lt pushed are is =
    rw (take_more replies i d lt, pushed, map-append f items (remark ∷ []))
    (one_more_remark names programs (take i replies) (get_or replies i d) (map f items) (f remark) are is)
