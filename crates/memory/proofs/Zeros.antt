-- Zeroing a memory from its first word on, one step at a time.
use Rattle.std.proofs.Common.{◌≡◌, ℕ, ◌+◌, ◌<◌, ◌≤◌, min, List, ◌++◌, length, drop, set, replicate, sym, ◌∙◌, arith}
use Rattle.std.proofs.lemmas.List.Edits.{fill_more, fill_none}
use Rattle.std.proofs.lemmas.List.{length-replicate, length-append, length-drop, drop_all}
use Rattle.memory.specs.Words.{zeroed}

as_filled : (ws : List ℕ) (n : ℕ) → n ≤ length ws → zeroed ws n ≡ replicate n 0 ++ drop n ws
unfolding zeroed
as_filled ws n h = let e : min n (length ws) ≡ n = omega arith in rw e

pub zeroed_none : (ws : List ℕ) → ws ≡ zeroed ws 0
zeroed_none ws = fill_none ws 0 ∙ sym (as_filled ws 0 (omega arith))

pub zeroed_more : (ws : List ℕ) (n : ℕ) → n < length ws → set (zeroed ws n) n 0 ≡ zeroed ws (n + 1)
zeroed_more ws n h =
    let a = as_filled ws n (omega arith) in
    let b = as_filled ws (n + 1) (omega arith) in
    let c = fill_more n 0 ws h in
    cc

pub length_zeroed : (ws : List ℕ) (n : ℕ) → length (zeroed ws n) ≡ length ws
unfolding zeroed
length_zeroed ws n = simp (length-append, length-replicate, length-drop) (omega arith)

pub zeroed_past : (ws : List ℕ) (n : ℕ) → length ws ≤ n → zeroed ws n ≡ zeroed ws (length ws)
unfolding zeroed
zeroed_past ws n h =
    let a : min n (length ws) ≡ length ws = omega arith in
    let b : min (length ws) (length ws) ≡ length ws = omega arith in
    let c = drop_all n ws h in
    let d = drop_all (length ws) ws (omega arith) in
    rw (a, b, c, d)
