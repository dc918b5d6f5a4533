-- The operations one after the other: `Going` is the loop's invariant. Assumes nothing.
use Prim.Native.Nat.{ℕ, suc, ◌+◌, ◌*◌, ◌-◌, ◌/◌, ◌≤◌, ◌<◌}
use mathlib.Core.Path.{◌≡◌, refl, sym, ap, ◌∙◌}
use mathlib.Core.List.{List, [], ◌∷◌, ◌++◌, append-nil, append_assoc}
use native.Mathlib.Omega.{arith}
use Rattle.std.specs.Prelude.{Option, Some, None}
use lib.ListN.{length, set, take, drop, length-set, take-append-drop}
use lib.Seq.{take-suc-set, drop-set-lt, drop-drop, length-take-le}
use Rattle.board.specs.Registers.{registers, opened, digit, interrupt_of}
use Rattle.board.specs.declared.registers.Board.{Board}
use Rattle.harness_board.specs.Words.{next_of}
use Rattle.harness_board.specs.Ran.{went, halted, step_of, stepped, answers_of, Ran}
use Rattle.harness_board.specs.declared.step.Step.{Step}

-- What holds before each operation: those answered so far and those that follow from here are the whole list's, and the answers' rest is as it was.
pub record Going (ops answers₀ answers : List ℕ) (board : Board) (at done : ℕ) : Type 0 where
  pub within : done ≤ length answers₀ / 2
  pub kept : length answers ≡ length answers₀
  pub ahead : take (2 * done) answers ++ answers_of (length answers₀ / 2 - done) (registers board) (drop at ops) ≡ answers_of (length answers₀ / 2) opened ops
  pub rest : drop (2 * done) answers ≡ drop (2 * done) answers₀

pub going_none : (ops answers₀ : List ℕ) (board : Board) → registers board ≡ opened → Going ops answers₀ answers₀ board 0 0
going_none ops answers₀ board e =
    let z : length answers₀ / 2 - 0 ≡ length answers₀ / 2 = omega arith in
    record { within = omega arith; kept = refl; ahead = rw (z, e); rest = refl }

-- two words put at k
module _ (xs : List ℕ) (k a l : ℕ) (room : k + 2 ≤ length xs) where
  put_front : take (suc (suc k)) (set (set xs k a) (suc k) l) ≡ take k xs ++ (a ∷ l ∷ [])
  put_front =
      let h : suc k < length (set xs k a) = simp length-set (omega arith) in
      let i : k < length xs = omega arith in
      take-suc-set (set xs k a) (suc k) l h ∙ rw (take-suc-set xs k a i, append_assoc)

  put_rest : drop (suc (suc k)) (set (set xs k a) (suc k) l) ≡ drop (suc (suc k)) xs
  put_rest = drop-set-lt (suc (suc k)) (set xs k a) (suc k) l (omega arith) ∙ drop-set-lt (suc (suc k)) xs k a (omega arith)

two_fewer : (xs ys : List ℕ) (k : ℕ) → drop k xs ≡ drop k ys → drop (suc (suc k)) xs ≡ drop (suc (suc k)) ys
two_fewer xs ys k e =
    let n : suc (suc k) ≡ k + 2 = omega arith in
    rw (n, ← drop-drop 2 k xs, ← drop-drop 2 k ys) (ap (drop 2) e)

module _ {ops answers₀ answers : List ℕ} {board : Board} {at done : ℕ} (g : Going ops answers₀ answers board at done) where
  -- nothing follows
  ended : answers_of (length answers₀ / 2 - done) (registers board) (drop at ops) ≡ [] → Ran ops answers₀ done answers
  ended e =
      let whole = answers_of (length answers₀ / 2) opened ops in
      let k : 2 * done ≤ length answers = omega (arith, g.within, g.kept) in
      let front : take (2 * done) answers ≡ whole = sym (append-nil (take (2 * done) answers)) ∙ (rw e at g.ahead) in
      record {
        done = sym (length-take-le (2 * done) answers k) ∙ ap length front;
        answered = sym (take-append-drop (2 * done) answers) ∙ rw (front, g.rest);
      }

  pub going_full : length answers₀ / 2 ≤ done → Ran ops answers₀ done answers
  unfolding answers_of
  going_full h = let z : length answers₀ / 2 - done ≡ 0 = omega arith in ended (rw z)

  module _ (said : Option Step) (after : Board) (is : stepped ops after said ≡ step_of (registers board) (next_of (drop at ops))) (lt : done < length answers₀ / 2) where
    one_more : length answers₀ / 2 - done ≡ suc (length answers₀ / 2 - (done + 1))
    one_more = omega arith

    pub going_halt : said ≡ None → Ran ops answers₀ done answers
    unfolding answers_of
    going_halt e =
        let s : halted ≡ step_of (registers board) (next_of (drop at ops)) = rw e at is in
        ended (rw (one_more, ← s))

    -- an operation's two words
    more_words : (r : Step) → said ≡ Some r → (line : ℕ) → line ≡ digit (interrupt_of (registers after))
        → answers_of (length answers₀ / 2 - done) (registers board) (drop at ops) ≡ r.answer ∷ line ∷ answers_of (length answers₀ / 2 - (done + 1)) (registers after) (drop r.next ops)
    unfolding answers_of
    more_words r e line le =
        let here : went (record { after = registers after; answer = r.answer }) (drop r.next ops) ≡ step_of (registers board) (next_of (drop at ops)) = rw e at is in
        rw (one_more, ← here, le)

    pub going_more : (r : Step) → said ≡ Some r → (line : ℕ) → line ≡ digit (interrupt_of (registers after))
        → Going ops answers₀ (set (set answers (2 * done) r.answer) (2 * done + 1) line) after r.next (done + 1)
    going_more r e line le =
        let k = 2 * done in
        let two : 2 * (done + 1) ≡ suc (suc k) = omega arith in
        let one : k + 1 ≡ suc k = omega arith in
        let room : k + 2 ≤ length answers = omega (arith, g.kept) in
        record {
          within = omega arith;
          kept = simp length-set g.kept;
          ahead = rw (two, one, put_front answers k r.answer line room, append_assoc) (ap (λ (l : List ℕ). take k answers ++ l) (sym (more_words r e line le)) ∙ g.ahead);
          rest = rw (two, one, put_rest answers k r.answer line room) (two_fewer answers answers₀ k g.rest);
        }
