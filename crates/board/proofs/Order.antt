-- The claim: of every list of writes and ticks, samples taken followed by samples waiting are the samples that waited at first followed by the accepted ones, in order. Assumes
-- nothing.
use Prim.Native.Nat.{ℕ}
use mathlib.Core.Path.{◌≡◌, refl, sym, ap, ◌∙◌}
use mathlib.Core.List.{List, [], ◌∷◌, ◌++◌, append-nil, append_assoc}
use mathlib.Core.Bool.{Bool, true, false, cond}
use Rattle.board.specs.Queue.{waiting}
use Rattle.board.specs.Registers.{Registers, registers, full}
use Rattle.board.specs.Shape.{is_sample, sample_of, permitted}
use Rattle.board.specs.Write.{Written, stored, queued, taken, refused, sampled, other, write_of}
use Rattle.board.specs.Tick.{Ticked, running, standing, tick_of}
use Rattle.board.specs.Claim.{Event, Run, none, wrote, ticked, accepted_by, accepted, taken_in}
use Rattle.board.specs.declared.registers.Board.{Board}
use Rattle.board.specs.declared.answer.WriteRefusal.TheVariants.{QueueFull, Invalid}

-- a write adds what it was accepted for
module _ (m : Registers) (place : ℕ) (bytes : List ℕ) where
  abbrev Adds : Written → Type 0
  Adds w = w.after.waiting ≡ m.waiting ++ accepted_by w.outcome place bytes

  sample_adds : (f : Bool) → is_sample place bytes ≡ true → Adds (cond f (refused m QueueFull) (taken (queued m (sample_of bytes))))
  sample_adds true e = sym (append-nil m.waiting)
  sample_adds false e = rw e

  other_adds : (p : Bool) → is_sample place bytes ≡ false → Adds (cond p (taken (stored m place bytes)) (refused m Invalid))
  unfolding stored
  other_adds true e = rw (e, append-nil)
  other_adds false e = sym (append-nil m.waiting)

  write_adds_by : (s : Bool) → is_sample place bytes ≡ s → Adds (cond s (sampled m (sample_of bytes)) (other m place bytes))
  unfolding sampled
  write_adds_by true e = sample_adds (full m) e
  write_adds_by false e = other_adds (permitted place bytes) e

  pub write_adds : Adds (write_of m place bytes)
  unfolding write_of
  write_adds = write_adds_by (is_sample place bytes) refl

-- a tick takes the oldest sample or none
module _ (m : Registers) where
  run_takes : (w : List ℕ) → (running m w).taken ++ (running m w).after.waiting ≡ w
  run_takes [] = refl
  run_takes (x ∷ xs) = refl

  abbrev Takes : Ticked → Type 0
  Takes t = t.taken ++ t.after.waiting ≡ m.waiting

  takes_by : (b : Bool) → Takes (cond b (running m m.waiting) (standing m))
  takes_by true = run_takes m.waiting
  takes_by false = refl

  pub tick_takes : Takes (tick_of m)
  unfolding tick_of
  tick_takes = takes_by m.run

pub queue_in_order : {a b : Board} {es : List Event} (run : Run a es b) → taken_in run ++ waiting b.queue ≡ waiting a.queue ++ accepted es
unfolding taken_in accepted
queue_in_order {a} none = sym (append-nil (waiting a.queue))
queue_in_order {a} {b} (wrote {es} place bytes r h rest) =
    let m = registers a in
    let left : waiting r.board.queue ≡ waiting a.queue ++ accepted_by r.outcome place bytes =
    ap (λ (w : Written). w.after.waiting) h ∙ write_adds m place bytes ∙ ap (λ (w : Written). m.waiting ++ accepted_by w.outcome place bytes) (sym h) in
    queue_in_order rest ∙ rw (left, append_assoc)
queue_in_order {a} {b} (ticked {es} r h rest) =
    let m = registers a in
    let t = (tick_of m).taken in
    let left : t ++ waiting r.board.queue ≡ waiting a.queue =
    ap (λ (s : Registers). t ++ s.waiting) h.after ∙ tick_takes m in
    append_assoc t (taken_in rest) (waiting b.queue) ∙ ap (λ (l : List ℕ). t ++ l) (queue_in_order rest)
    ∙ sym (append_assoc t (waiting r.board.queue) (accepted es)) ∙ ap (λ (l : List ℕ). l ++ accepted es) left

-- "For every list of writes and ticks on an empty queue, samples taken followed by samples waiting are the accepted samples, in order."
pub accepted_in_order : {a b : Board} {es : List Event} (run : Run a es b) → waiting a.queue ≡ [] → taken_in run ++ waiting b.queue ≡ accepted es
accepted_in_order {a} {b} {es} run e = queue_in_order run ∙ ap (λ (l : List ℕ). l ++ accepted es) e
