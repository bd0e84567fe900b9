-- The kinds of a heap that begins, and its spare handles, in the words of std.
use Rattle.std.proofs.Common.{◌≡◌, ℕ, zero, suc, ◌+◌, ◌<◌, ◌≤◌, cond, ◌&&◌, List, [], ◌∷◌, get_or, refl, ap, subst, inl, inr, ◌∙◌, add-one, arith}
use denote.Param.Members.{Mut}
use Rattle.std.specs.Fn.{Called}
use Rattle.std.specs.Array.{IsFromFnResult, IsFromFnResultFrom}
use Rattle.std.specs.List.{list_all}
use Rattle.std.proofs.lemmas.Bool.{cases_eq}
use Rattle.std.proofs.lemmas.List.FromFn.{fill_by_all}
use Rattle.kinds.specs.declared.Kind.{Kind}
use Rattle.kinds.specs.Maps.{fits}
use Rattle.heap.specs.declared.Handle.{Handle}
use Rattle.heap.specs.declared.Table.{Table}
use Rattle.heap.specs.Handles.{blank, is_spare, state_of}
use Rattle.heap.specs.Start.{all_fit, spare_row, spare_rows}
use Rattle.heap.specs.Room.{spares_to}

pub fit_each : (ks : List Kind) → all_fit ks ≡ list_all fits ks
unfolding all_fit
fit_each [] = refl
fit_each (k ∷ ks) = ap (λ b. fits k && b) (fit_each ks)

pub spares_none : (t : Table) → spares_to t 0 ≡ 0
unfolding spares_to
spares_none t = refl

pub spares_more : (t : Table) (n : ℕ) → spares_to t (n + 1) ≡ spares_to t n + cond (is_spare (state_of t (n + 1))) 1 0
unfolding spares_to
spares_more t n = rw add-one

-- an array made by calls that leave their closure as it is
made_by : {F X : Type 0} (g : Mut F (ℕ × Unit {0}) X) (h : ℕ → X) (f : F) → ((x : ℕ) (r : X) (q : F) → Called g f (x, tt) r q → (q ≡ f) × (r ≡ h x)) → (xs : List X) (i n : ℕ) → IsFromFnResultFrom g f xs i n
    → (k : ℕ) (d : X) → i ≤ k → k < i + n → get_or xs k d ≡ h k
made_by g h f each xs i zero m k d l u = absurd (omega arith)
made_by g h f each xs i (suc n) m k d l u =
    let s = each i m.1 m.0 m.3 in
    elim (cases_eq k i) [
      | inl e ↦ (rw e (m.2.1 d ∙ s.1))
      | inr e ↦ made_by g h f each xs (i + 1) n (subst (λ p. IsFromFnResultFrom g p xs (i + 1) n) s.0 m.4) k d (omega arith) (omega arith)
    ]

pub spares_laid : {F : Type 0} (g : Mut F (ℕ × Unit {0}) Handle) (f : F) (last n : ℕ) (xs : List Handle) → IsFromFnResult g f xs n → ((x : ℕ) (r : Handle) (q : F) → Called g f (x, tt) r q → (q ≡ f) × (r ≡ spare_row last x))
    → xs ≡ spare_rows n last
unfolding spare_rows
spares_laid g f last n xs m each =
    fill_by_all (spare_row last) xs n blank m.long (λ k l. made_by g (spare_row last) f each xs 0 n m.each k blank (omega arith) (omega arith))
