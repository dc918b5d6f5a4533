-- `tono_seq::scores::render_seq` meets its contract. Assumes nothing.
use Rattle.std.specs.Prelude.{Some}
use Prim.Native.Nat.{◌≤◌}
use mathlib.Core.Path.{◌≡◌, refl, sym, ◌∙◌}
use native.Mathlib.Omega.{arith}
use lib.ListN.{length}
use lib.Seq.{length-take-le, take_all}
use Rattle.dsl.specs.declared.knobs.Adsr.{Adsr}
use Rattle.dsl.specs.declared.knobs.SeqVoice.{SeqVoice}
use Rattle.raw_knobs.specs.Knobs.{voice_at, env_at}
use Rattle.raw_call.specs.Raw.{whole_of, parts_with}
use Rattle.raw_call.proofs.Whole.{call_eights}
use Rattle.raw_call.proofs.Ends.{none_holds}
use Rattle.tono_seq.proofs.ScoreEnds.{not_called, call_holds}
use borrow.Author.Rules.{rules}
use Rattle.tono_seq.proofs.scores.render_seq.Goals as goal

pub returns-in_default : goal.returns-in_default
returns-in_default c = not_called _ (sym c.in_default.is ∙ c.parts_at.ensures) (none_holds _ refl refl refl refl) (refl, refl)

pub slice_bounds-held-end : goal.slice_bounds-held-end
slice_bounds-held-end c =
    let eights : (v : SeqVoice) (m : Adsr) →
    Some (v, m) ≡ parts_with (voice_at c.args.wave c.args.style c.args.knobs.now c.args.bars.now) (env_at c.args.env.now)
    (whole_of (length c.args.seeds.now) (length c.args.counts.now) (length c.args.points.now)) →
    (length c.args.seeds.now ≡ 8) × (length c.args.counts.now ≡ 8) =
    λ v m is. call_eights (length c.args.seeds.now) (length c.args.counts.now) (length c.args.points.now)
    (voice_at c.args.wave c.args.style c.args.knobs.now c.args.bars.now) (env_at c.args.env.now) v m is in
    let e = (eights _ _ (sym c.in-Some.is ∙ c.parts_at.ensures)).1 in
    omega (arith, e)

pub slice_bounds-held-end-2 : goal.slice_bounds-held-end-2
slice_bounds-held-end-2 c =
    let eights : (v : SeqVoice) (m : Adsr) →
    Some (v, m) ≡ parts_with (voice_at c.args.wave c.args.style c.args.knobs.now c.args.bars.now) (env_at c.args.env.now)
    (whole_of (length c.args.seeds.now) (length c.args.counts.now) (length c.args.points.now)) →
    (length c.args.seeds.now ≡ 8) × (length c.args.counts.now ≡ 8) =
    λ v m is. call_eights (length c.args.seeds.now) (length c.args.counts.now) (length c.args.points.now)
    (voice_at c.args.wave c.args.style c.args.knobs.now c.args.bars.now) (env_at c.args.env.now) v m is in
    let e = (eights _ _ (sym c.in-Some.is ∙ c.parts_at.ensures)).1 in
    sym (length-take-le 8 c.args.counts.now (let le : 8 ≤ length c.args.counts.now = omega (arith, e) in le))

pub session_of-session-requires : goal.session_of-session-requires
session_of-session-requires c =
    let eights : (v : SeqVoice) (m : Adsr) →
    Some (v, m) ≡ parts_with (voice_at c.args.wave c.args.style c.args.knobs.now c.args.bars.now) (env_at c.args.env.now)
    (whole_of (length c.args.seeds.now) (length c.args.counts.now) (length c.args.points.now)) →
    (length c.args.seeds.now ≡ 8) × (length c.args.counts.now ≡ 8) =
    λ v m is. call_eights (length c.args.seeds.now) (length c.args.counts.now) (length c.args.points.now)
    (voice_at c.args.wave c.args.style c.args.knobs.now c.args.bars.now) (env_at c.args.env.now) v m is in
    let (seeds, counts) = eights _ _ (sym c.in-Some.is ∙ c.parts_at.ensures) in
    record {
      seeds_len = seeds;
      counts_len = length-take-le 8 c.args.counts.now (let le : 8 ≤ length c.args.counts.now = omega (arith, counts) in le);
    }

pub put_count-requires : goal.put_count-requires
put_count-requires c =
    let eights : (v : SeqVoice) (m : Adsr) →
    Some (v, m) ≡ parts_with (voice_at c.args.wave c.args.style c.args.knobs.now c.args.bars.now) (env_at c.args.env.now)
    (whole_of (length c.args.seeds.now) (length c.args.counts.now) (length c.args.points.now)) →
    (length c.args.seeds.now ≡ 8) × (length c.args.counts.now ≡ 8) =
    λ v m is. call_eights (length c.args.seeds.now) (length c.args.counts.now) (length c.args.points.now)
    (voice_at c.args.wave c.args.style c.args.knobs.now c.args.bars.now) (env_at c.args.env.now) v m is in
    (eights _ _ (sym c.in-Some.is ∙ c.parts_at.ensures)).1

pub returns : goal.returns
returns c =
    let eights : (v : SeqVoice) (m : Adsr) →
    Some (v, m) ≡ parts_with (voice_at c.args.wave c.args.style c.args.knobs.now c.args.bars.now) (env_at c.args.env.now)
    (whole_of (length c.args.seeds.now) (length c.args.counts.now) (length c.args.points.now)) →
    (length c.args.seeds.now ≡ 8) × (length c.args.counts.now ≡ 8) =
    λ v m is. call_eights (length c.args.seeds.now) (length c.args.counts.now) (length c.args.points.now)
    (voice_at c.args.wave c.args.style c.args.knobs.now c.args.bars.now) (env_at c.args.env.now) v m is in
    let is = sym c.in-Some.is ∙ c.parts_at.ensures in
    let e = (eights _ _ is).1 in
    let held = take_all 8 c.args.counts.now (let le : length c.args.counts.now ≤ 8 = omega (arith, e) in le) in
    let call = rw (c.seq_of-seq.ensures, c.session_of-session.ensures, held) at c.render_seq-answer.ensures in
    call_holds _ _ _ _ is call c.number_of.ensures c.draws_of.ensures c.put_count.ensures
