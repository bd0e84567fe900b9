-- Words in bytes: their count, reading one, and setting one.
use Rattle.std.proofs.Common.{◌≡◌, ℕ, ◌+◌, ◌*◌, ◌/◌, ◌%◌, ◌<◌, ◌≢◌, List, [], ◌∷◌, refl, sym, length, get_or, drop, set, ap, ◌∙◌, inl, inr, arith}
use native.Mathlib.Nat.{div-div-eq-div-mul}
use Rattle.std.proofs.lemmas.List.FromFn.{length-map-range_with_len, get_or-map-range_with_len}
use Rattle.std.proofs.lemmas.List.{same_lists, length-set, get_or-set_same, get_or-set_other, drop-set-lt}
use Rattle.std.proofs.lemmas.Bool.{cases_eq}
use Rattle.std.proofs.Math.Seq.{paste}
use Rattle.std.proofs.lemmas.Slice.{put_mid-paste}
use borrow.Rule.Slice.PartMut.{put_mid}
use Rattle.std.proofs.lemmas.List.Edits.{paste_none, paste_more}
use Rattle.memory.specs.Bytes.{word_at, words_of, put4}

pub length_words : (bs : List ℕ) → length (words_of bs) ≡ length bs / 4
unfolding words_of
length_words bs = length-map-range_with_len (word_at bs) 0 (length bs / 4)

pub get_or_words : (bs : List ℕ) (p d : ℕ) → p < length bs / 4 → get_or (words_of bs) p d ≡ word_at bs p
unfolding words_of
get_or_words bs p d h = get_or-map-range_with_len (word_at bs) 0 (length bs / 4) p p d h (omega arith)

length_put4 : (bs : List ℕ) (i a b c d : ℕ) → length (put4 bs i a b c d) ≡ length bs
length_put4 bs i a b c d = simp length-set

other_put4 : (bs : List ℕ) (i a b c d k : ℕ) → k ≢ i → k ≢ i + 1 → k ≢ i + 2 → k ≢ i + 3 → get_or (put4 bs i a b c d) k 0 ≡ get_or bs k 0
other_put4 bs i a b c d k n0 n1 n2 n3 = rw (get_or-set_other, get_or-set_other, get_or-set_other, get_or-set_other)

put4_0 : (bs : List ℕ) (i a b c d : ℕ) → i + 3 < length bs → get_or (put4 bs i a b c d) i 0 ≡ a
put4_0 bs i a b c d h = grind (arith, get_or-set_other, get_or-set_same, length-set)

put4_1 : (bs : List ℕ) (i a b c d : ℕ) → i + 3 < length bs → get_or (put4 bs i a b c d) (i + 1) 0 ≡ b
put4_1 bs i a b c d h = grind (arith, get_or-set_other, get_or-set_same, length-set)

put4_2 : (bs : List ℕ) (i a b c d : ℕ) → i + 3 < length bs → get_or (put4 bs i a b c d) (i + 2) 0 ≡ c
put4_2 bs i a b c d h = grind (arith, get_or-set_other, get_or-set_same, length-set)

put4_3 : (bs : List ℕ) (i a b c d : ℕ) → i + 3 < length bs → get_or (put4 bs i a b c d) (i + 3) 0 ≡ d
put4_3 bs i a b c d h = grind (arith, get_or-set_other, get_or-set_same, length-set)

digits : (v : ℕ) → v < 4294967296 → v / 16777216 % 256 * 16777216 + v / 65536 % 256 * 65536 + v / 256 % 256 * 256 + v % 256 ≡ v
digits v h =
    let a = div-div-eq-div-mul v 256 256 in
    let b = div-div-eq-div-mul v 65536 256 in
    let e : v / 256 / 256 ≡ v / 65536 = a in
    let f : v / 65536 / 256 ≡ v / 16777216 = b in
    let c : v / 16777216 % 256 ≡ v / 16777216 = omega arith in
    omega arith

word_here : (bs : List ℕ) (p a b c d : ℕ) → p < length bs / 4 → word_at (put4 bs (4 * p) a b c d) p ≡ a * 16777216 + b * 65536 + c * 256 + d
word_here bs p a b c d h =
    let g : 4 * p + 3 < length bs = omega arith in
    omega (arith, put4_0 bs (4 * p) a b c d g, put4_1 bs (4 * p) a b c d g, put4_2 bs (4 * p) a b c d g, put4_3 bs (4 * p) a b c d g)

word_there : (bs : List ℕ) (p a b c d k : ℕ) → (k ≡ p → ⊥) → word_at (put4 bs (4 * p) a b c d) k ≡ word_at bs k
word_there bs p a b c d k n =
    let y = λ (j : ℕ) (l : j < 4). other_put4 bs (4 * p) a b c d (4 * k + j) (omega arith) (omega arith) (omega arith) (omega arith) in
    let o = other_put4 bs (4 * p) a b c d (4 * k) (omega arith) (omega arith) (omega arith) (omega arith) in
    omega (arith, y 1 (omega arith), y 2 (omega arith), y 3 (omega arith))

-- a word that is set, by its four bytes
pub set_words : (bs : List ℕ) (p v : ℕ) → p < length bs / 4 → v < 4294967296 → words_of (put4 bs (4 * p) (v / 16777216 % 256) (v / 65536 % 256) (v / 256 % 256) (v % 256)) ≡ set (words_of bs) p v
set_words bs p v h f =
    let a = v / 16777216 % 256 in
    let b = v / 65536 % 256 in
    let c = v / 256 % 256 in
    let d = v % 256 in
    let xs = put4 bs (4 * p) a b c d in
    let l : length xs ≡ length bs = length_put4 bs (4 * p) a b c d in
    let n : length (words_of xs) ≡ length bs / 4 = length_words xs ∙ ap (λ m. m / 4) l in
    let m = length_words bs in
    let o = length-set (words_of bs) p v in
    same_lists (words_of xs) (set (words_of bs) p v) (omega arith)
    (λ k z lt.
    let t : k < length xs / 4 = rw l (omega arith) in
    let w = get_or_words xs k z t in
    elim (cases_eq k p) [
      | inl q ↦
          (let r = get_or-set_same (words_of bs) p v z (omega arith) in
          let y = word_here bs p a b c d h ∙ digits v f in
          cc)
      | inr q ↦
          (let r = get_or-set_other (words_of bs) p k v z q in
          let y = word_there bs p a b c d k q in
          let u = get_or_words bs k z (omega arith) in
          cc)
    ])

-- bytes past the words stay
pub tail_put4 : (bs : List ℕ) (n i a b c d : ℕ) → i + 3 < n → drop n (put4 bs i a b c d) ≡ drop n bs
tail_put4 bs n i a b c d h =
    let x = set bs i a in
    let y = set x (i + 1) b in
    let z = set y (i + 2) c in
    drop-set-lt n z (i + 3) d h ∙ drop-set-lt n y (i + 2) c (omega arith) ∙ drop-set-lt n x (i + 1) b (omega arith) ∙ drop-set-lt n bs i a (omega arith)

-- four bytes that are copied to one place are put there one by one
pub pasted4 : (bs : List ℕ) (i a b c d : ℕ) → i + 3 < length bs → paste bs i (a ∷ (b ∷ (c ∷ (d ∷ [])))) 4 ≡ put4 bs i a b c d
pasted4 bs i a b c d h =
    let s = a ∷ (b ∷ (c ∷ (d ∷ []))) in
    let p0 : paste bs i s 0 ≡ bs = sym (paste_none bs i s) in
    let z : i + 0 ≡ i = omega arith in
    let p1 : set (paste bs i s 0) (i + 0) a ≡ paste bs i s 1 = paste_more bs i s 0 0 (omega arith) (omega arith) in
    let p2 : set (paste bs i s 1) (i + 1) b ≡ paste bs i s 2 = paste_more bs i s 1 0 (omega arith) (omega arith) in
    let p3 : set (paste bs i s 2) (i + 2) c ≡ paste bs i s 3 = paste_more bs i s 2 0 (omega arith) (omega arith) in
    let p4 : set (paste bs i s 3) (i + 3) d ≡ paste bs i s 4 = paste_more bs i s 3 0 (omega arith) (omega arith) in
    cc

-- the same, written over the part of the bytes that holds them
pub put_mid4 : (bs ys : List ℕ) (i k a b c d : ℕ) → ys ≡ a ∷ (b ∷ (c ∷ (d ∷ []))) → k ≡ 4 → i + 3 < length bs → put_mid i k bs ys ≡ put4 bs i a b c d
put_mid4 bs ys i k a b c d e q h =
    put_mid-paste i k bs ys (a ∷ (b ∷ (c ∷ (d ∷ [])))) 4 e (sym q) refl ∙ pasted4 bs i a b c d h

-- the four bytes of a word
abbrev word_bytes : ℕ → List ℕ
word_bytes v = v / 16777216 % 256 ∷ (v / 65536 % 256 ∷ (v / 256 % 256 ∷ (v % 256 ∷ [])))

pub words_put_mid : (bs ys : List ℕ) (p k v : ℕ) → ys ≡ word_bytes v → k ≡ 4 → p < length bs / 4 → v < 4294967296 → words_of (put_mid (4 * p) k bs ys) ≡ set (words_of bs) p v
words_put_mid bs ys p k v e q h f =
    ap words_of (put_mid4 bs ys (4 * p) k (v / 16777216 % 256) (v / 65536 % 256) (v / 256 % 256) (v % 256) e q (omega arith)) ∙ set_words bs p v h f

pub tail_put_mid : (bs ys : List ℕ) (p k v : ℕ) → ys ≡ word_bytes v → k ≡ 4 → p < length bs / 4 → drop (4 * (length bs / 4)) (put_mid (4 * p) k bs ys) ≡ drop (4 * (length bs / 4)) bs
tail_put_mid bs ys p k v e q h =
    let a = v / 16777216 % 256 in
    let b = v / 65536 % 256 in
    let c = v / 256 % 256 in
    let d = v % 256 in
    let n = 4 * (length bs / 4) in
    ap (drop n) (put_mid4 bs ys (4 * p) k a b c d e q (omega arith)) ∙ tail_put4 bs n (4 * p) a b c d (omega arith)
