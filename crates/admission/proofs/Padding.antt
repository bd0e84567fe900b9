-- A list in an array, filled place by place.
use Rattle.std.proofs.Common.{◌≡◌, ℕ, ◌+◌, ◌<◌, List, [], ◌∷◌, ◌++◌, length, get_or, take, drop, set, replicate, sym, refl, ap, ◌∙◌, append_assoc, arith}
use Rattle.std.proofs.lemmas.List.{drop_more, set_at, length-replicate, length-take-le, take_at, take_more_set}
use Rattle.admission.specs.Admission.{padded}

-- the next place takes v
pub fill_next : {X : Type 0} (size : ℕ) (d v : X) (xs : List X) (i : ℕ) → length xs ≡ i → i < size → set (xs ++ drop i (replicate size d)) i v ≡ (xs ++ v ∷ []) ++ drop (i + 1) (replicate size d)
fill_next size d v xs i l h =
    let n = length-replicate size d in
    let a = drop_more (replicate size d) i d (omega arith) in
    let b = set_at xs (get_or (replicate size d) i d) (drop (i + 1) (replicate size d)) v i l in
    let e = append_assoc xs (v ∷ []) (drop (i + 1) (replicate size d)) in
    cc

pub take_padded : {X : Type 0} (size : ℕ) (d : X) (xs : List X) → take (length xs) (padded size d xs) ≡ xs
take_padded size d xs = take_at xs (drop (length xs) (replicate size d)) (length xs) refl

-- an array whose first i places are filled, one more
pub keep_next : {X : Type 0} (size : ℕ) (d v : X) (ys : List X) (i : ℕ) → length ys ≡ size → i < size → ys ≡ take i ys ++ drop i (replicate size d) → set ys i v ≡ take (i + 1) (set ys i v) ++ drop (i + 1) (replicate size d)
keep_next size d v ys i l h e =
    let a = fill_next size d v (take i ys) i (length-take-le i ys (omega arith)) h in
    let b = take_more_set ys i v (omega arith) in
    let f : set ys i v ≡ set (take i ys ++ drop i (replicate size d)) i v = ap (λ (zs : List _). set zs i v) e in
    f ∙ a ∙ ap (λ (zs : List _). zs ++ drop (i + 1) (replicate size d)) (sym b)
