-- What the writer answers and leaves, from what the reader says of the text that is drawn.
use Rattle.std.proofs.Common.{◌≡◌, ℕ, ◌<◌, ◌≤◌, leb, List, ◌++◌, length, take, sym, refl, ap, ◌∙◌, arith}
use Rattle.std.proofs.lemmas.List.{take_at}
use Rattle.std.proofs.lemmas.Bool.{le-leb, lt-leb, cond-true, cond-false}
use Rattle.fault.specs.Told.{Told, answered, refused, Refusal}
use Rattle.table.specs.declared.Table.{Table}
use Rattle.table.specs.Format.{Rows, render}
use Rattle.table.specs.Checking.{refuse, check_lines, check}
use Rattle.table.specs.Filling.{summary}
use Rattle.table.specs.Laws.{Accepted}
use Rattle.table.proofs.Sound.{clash, check_sound}
use Rattle.table.proofs.Fits.{fits_good}
use Rattle.table.proofs.Back.{lines_render}
use Rattle.table.proofs.Complete.{check_complete}
use Rattle.table_writer.specs.Writing.{answer_to, written, Taken, Written}
use Rattle.table_writer.proofs.Clips.{clip, clip_few, clip_checked, Answered, lines_answered}

-- an answer tells no more of a table than that it was accepted
same_answer : (q : Told Rows) (bytes room : ℕ) → answer_to (summary q) bytes room ≡ answer_to q bytes room
same_answer (answered t) bytes room = refl
same_answer (refused e) bytes room = refl

-- rows within limits are written wherever there is room

pub taken : (rows : Rows) (room : ℕ) (a : Told ℕ) → a ≡ written rows room → Taken rows room a
taken rows room a e h r =
    let c : check_lines 32 16 (render rows) ≡ answered rows = lines_render 32 16 rows ∙ fits_good 32 16 rows h h.kind_count.1 h.task_count.1 in
    rw (e, c, le-leb (length (render rows)) room r)

module _ (rows : Rows) (text : List ℕ) (drawn : text ≡ render (clip rows)) (short : length text ≤ 8192) where
  checked : check text 32 16 ≡ check_lines 32 16 (render rows)
  checked = ap (λ x. check x 32 16) drawn ∙ clip_checked rows (omega (arith, ap length drawn))

  module _ (y : Rows) (h : check text 32 16 ≡ answered y) where
    tells : Answered rows y
    tells = lines_answered rows y (sym checked ∙ h)

    all_drawn : text ≡ render rows
    all_drawn = drawn ∙ ap render (clip_few rows tells.kinds tells.tasks)

    accepted_rows : Accepted text 32 16 rows
    accepted_rows = check_sound text 32 16 rows (h ∙ ap answered tells.same)

  -- the answer to what the reader said is the answer to the rows
  answer_is : (room : ℕ) → answer_to (summary (check text 32 16)) (length text) room ≡ written rows room
  answer_is room = go (check text 32 16) refl
    where
      go : (q : Told Rows) → check text 32 16 ≡ q → answer_to (summary (check text 32 16)) (length text) room ≡ written rows room
      go (answered y) e =
          same_answer (check text 32 16) (length text) room
          ∙ ap (λ q. answer_to q (length text) room) checked
          ∙ ap (λ x. answer_to (check_lines 32 16 (render rows)) (length x) room) (all_drawn y e)
      go (refused f) e =
          ap (λ q. answer_to (summary q) (length text) room) e
          ∙ ap (λ q. answer_to q (length (render rows)) room) (sym e ∙ checked)

  -- refused by the reader
  pub refused_is : (room : ℕ) (e : Refusal) → refused e ≡ summary (check text 32 16) → refused e ≡ written rows room
  refused_is room e h = ap (λ a. answer_to a (length text) room) h ∙ answer_is room

  module _ (t : Table) (h : answered t ≡ summary (check text 32 16)) where
    accepted_is : (room : ℕ) → answer_to (answered t) (length text) room ≡ written rows room
    accepted_is room = ap (λ a. answer_to a (length text) room) h ∙ answer_is room

    pub too_long : (room : ℕ) → room < length text → refuse 6 0 0 ≡ written rows room
    too_long room l = sym (cond-false (leb (length text) room) _ _ (lt-leb (length text) room l)) ∙ accepted_is room

    pub fitting : (room : ℕ) → length text ≤ room → answered (length text) ≡ written rows room
    fitting room l = sym (cond-true (leb (length text) room) _ _ (le-leb (length text) room l)) ∙ accepted_is room

    read_rows : (y : Rows) × (check text 32 16 ≡ answered y)
    read_rows = go (check text 32 16) refl
      where
        go : (q : Told Rows) → check text 32 16 ≡ q → (y : Rows) × (check text 32 16 ≡ answered y)
        go (answered y) e = (y, e)
        go (refused f) e = absurd (clash f t (sym (h ∙ ap summary e)))

    pub whole_text : text ≡ render rows
    whole_text = all_drawn read_rows.0 read_rows.1

    pub read_back : Written rows text
    read_back =
        let a = accepted_rows read_rows.0 read_rows.1 in
        record {
          limits = a.limits;
          text_is = a.text_is;
          back =
              check_complete text (length rows.kinds) (length rows.tasks) rows
              (record { text_is = a.text_is; limits = a.limits; kind_room = omega arith; task_room = omega arith });
        }

-- the front of a buffer is the text that was copied there

pub copied : (text new rest : List ℕ) → new ≡ text → take (length text) (new ++ rest) ≡ text
copied text new rest e = rw e (take_at text rest (length text) refl)
