-- What holds of an error holds of it where it is handed on.
use Rattle.std.proofs.Common.{◌≡◌, Result, Ok, Err, sym, subst}
use Rattle.sf_evaluate.specs.Common.{IfErr, IsErrAnd}

pub handed_on : {T E : Type 0} (P : E → Type 0) (r : Result T E) (e : E) → IsErrAnd r (λ y. y ≡ e) → P e → IfErr r P
handed_on P (Ok x) e same why = tt
handed_on P (Err y) e same why = subst P (sym same) why
