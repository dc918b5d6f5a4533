-- A whole chunk at the start of some bytes, and what the walk makes of it. Assumes nothing.
use Rattle.std.specs.Prelude.{Option, Some, None}
use Prim.Native.Nat.{ℕ, ◌+◌, ◌*◌, ◌-◌, ◌%◌, ◌^◌, ◌≤◌, ◌<◌}
use mathlib.Core.Path.{◌≡◌, refl, sym, ap, ◌∙◌}
use mathlib.Core.List.{List, [], ◌++◌, append_assoc, append-nil}
use mathlib.Core.Bool.{true, false, cond, not}
use native.Mathlib.Omega.{arith}
use borrow.Author.Tests.{le-ltb, eq-eqb}
use lib.ListN.{length, take, drop, length-append, length-drop}
use lib.Seq.{take_at, drop_at, drop-drop, drop-append-add, drop-append-le, take-append-le, take-append_seam}
use lib.Dec.{eqb}
use Rattle.laws.proofs.If.{if_true, if_false}
use Rattle.wave_file.specs.Bytes.{little_endian, number_in, field_at}
use Rattle.wave_file.specs.Chunk.{RIFF, WAVE, FMT, FACT, DATA, ck_id, ck_size, ck_data, chunk_length, chunk}
use Rattle.wave_file.specs.Refusal.{FileResult, accepted}
use Rattle.wave_file.proofs.Fields.{length_little, number_little}
use Rattle.wave_read.specs.Reading.{Wave, samples_in, fmt_chunk, fact_chunk, data_chunk, chunk_in, walk, reading}
use Rattle.wave_read.specs.declared.chunks.Met.{Met}
use Rattle.wave_read.proofs.Walking.{walk_next}
use Rattle.wave_round_trip.specs.Row.{Other, Row, none, other, fmt, fact}

module _ (name : ℕ) (body rest : List ℕ) where
  abbrev cs : List ℕ
  cs = chunk name body ++ rest

  apart : cs ≡ little_endian 4 name ++ (little_endian 4 (length body) ++ (body ++ rest))
  apart = simp append_assoc

  -- what follows the header
  pub row_body : drop 8 cs ≡ body ++ rest
  row_body =
      let h : drop 4 cs ≡ little_endian 4 (length body) ++ (body ++ rest) = rw apart (drop_at (little_endian 4 name) _ 4 (length_little 4 name)) in
      sym (drop-drop 4 4 cs) ∙ ap (drop 4) h ∙ drop_at (little_endian 4 (length body)) (body ++ rest) 4 (length_little 4 (length body))

  pub row_length : length cs ≡ 8 + length body + length rest
  row_length =
      let a = length-append (little_endian 4 name) (little_endian 4 (length body) ++ (body ++ rest)) in
      let b = length-append (little_endian 4 (length body)) (body ++ rest) in
      omega (arith, ap length apart, length-append body rest, length_little 4 name, length_little 4 (length body))

  -- a field of the body
  pub row_field : (n k : ℕ) → field_at n (8 + k) cs ≡ field_at n k (body ++ rest)
  row_field n k = ap (λ (l : List ℕ). number_in (take n l)) (sym (drop-drop k 8 cs) ∙ ap (drop k) row_body)

  pub row_id : name < 256 ^ 4 → ck_id cs ≡ name
  row_id h = ap number_in (ap (take 4) apart ∙ take_at (little_endian 4 name) (little_endian 4 (length body) ++ (body ++ rest)) 4 (length_little 4 name)) ∙ number_little 4 name h

  module _ (l : length body < 256 ^ 4) where
    pub row_size : ck_size cs ≡ length body
    row_size =
        let s = little_endian 4 (length body) in
        let h : drop 4 cs ≡ s ++ (body ++ rest) = rw apart (drop_at (little_endian 4 name) (s ++ (body ++ rest)) 4 (length_little 4 name)) in
        ap number_in (ap (take 4) h ∙ take_at s (body ++ rest) 4 (length_little 4 (length body))) ∙ number_little 4 (length body) l

    pub row_data : ck_data cs ≡ body
    row_data = rw (row_size, row_body) (take-append_seam body rest)

    -- behind the chunk and its padding byte, where it has one
    module _ (pad later : List ℕ) (e : rest ≡ pad ++ later) (p : length pad ≡ length body % 2) where
      pub row_past : drop (chunk_length (ck_size cs)) cs ≡ later
      row_past =
          let n : chunk_length (ck_size cs) ≡ 8 + (length body + length pad) = ap chunk_length row_size ∙ omega arith in
          let b : drop (length body + length pad) (body ++ rest) ≡ later =
          drop-append-add body rest (length pad) ∙ ap (drop (length pad)) e ∙ drop_at pad later (length pad) refl in
          rw n (sym (drop-drop (length body + length pad) 8 cs) ∙ ap (drop (length body + length pad)) row_body ∙ b)

      pub row_walk : (met : Met) → chunk_in met cs (λ (after : Met). walk 0 after later) ≡ walk 0 met cs
      row_walk met = (λ j. chunk_in met cs (λ (after : Met). walk 0 after (sym row_past j))) ∙ walk_next cs met

    module _ (h : name < 256 ^ 4) (met : Met) (next : Met → FileResult Wave) where
      named : (code : ℕ) → eqb (ck_id cs) code ≡ eqb name code
      named code = ap (λ (x : ℕ). eqb x code) (row_id h)

      -- the chunk is within the bytes
      within : {r : FileResult Wave}
          → r ≡ cond (eqb (ck_id cs) FMT) (fmt_chunk met.rate met.count cs next)
          (cond (eqb (ck_id cs) FACT) (fact_chunk met.rate met.count cs next) (cond (eqb (ck_id cs) DATA) (data_chunk met.rate met.count cs) (next met)))
          → r ≡ chunk_in met cs next
      unfolding chunk_in
      within e =
          let a : 8 ≤ length cs = omega (arith, row_length) in
          let b : 8 + ck_size cs ≤ length cs = omega (arith, row_length, row_size) in
          if_false _ (le-ltb _ _ a) (if_false _ (le-ltb _ _ b) e)

      pub row_fmt : eqb name FMT ≡ true → fmt_chunk met.rate met.count cs next ≡ chunk_in met cs next
      row_fmt e = within (if_true _ (named FMT ∙ e) refl)

      pub row_fact : eqb name FMT ≡ false → eqb name FACT ≡ true → fact_chunk met.rate met.count cs next ≡ chunk_in met cs next
      row_fact d e = within (if_false _ (named FMT ∙ d) (if_true _ (named FACT ∙ e) refl))

      pub row_samples : eqb name FMT ≡ false → eqb name FACT ≡ false → eqb name DATA ≡ true → data_chunk met.rate met.count cs ≡ chunk_in met cs next
      row_samples d f e = within (if_false _ (named FMT ∙ d) (if_false _ (named FACT ∙ f) (if_true _ (named DATA ∙ e) refl)))

      pub row_other : eqb name FMT ≡ false → eqb name FACT ≡ false → eqb name DATA ≡ false → next met ≡ chunk_in met cs next
      row_other d f e = within (if_false _ (named FMT ∙ d) (if_false _ (named FACT ∙ f) (if_false _ (named DATA ∙ e) refl)))

-- ---- the walk over the chunks of a file
pub same : (x y : ℕ) → x ≡ y → not (eqb x y) ≡ false
same x y h = ap not (eq-eqb x y h)

module _ (rest : List ℕ) where
  -- fmt with the fields that are judged: the tag, the channels and the width are at 0, 2 and 14 of its body
  pub walk_fmt : (body : List ℕ) → length body ≡ 18 → field_at 2 0 (body ++ rest) ≡ 3 → field_at 2 2 (body ++ rest) ≡ 1 → field_at 2 14 (body ++ rest) ≡ 32 → {rate : ℕ}
      → field_at 4 4 (body ++ rest) ≡ rate → (count : Option ℕ)
      → walk 0 (record { rate = Some rate; count = count }) rest ≡ walk 0 (record { rate = None; count = count }) (chunk FMT body ++ rest)
  unfolding fmt_chunk
  walk_fmt body n a b c {rate} e count =
      let met : Met = record { rate = None; count = count } in
      let l : length body < 256 ^ 4 = omega arith in
      let next : Met → FileResult Wave = λ after. walk 0 after rest in
      let fields : walk 0 (record { rate = Some rate; count = count }) rest ≡ fmt_chunk None count (chunk FMT body ++ rest) next =
      if_false _ (same _ _ (row_size FMT body rest l ∙ n))
      (if_false _ (same _ _ (row_field FMT body rest 2 0 ∙ a))
      (if_false _ (same _ _ (row_field FMT body rest 2 2 ∙ b))
      (if_false _ (same _ _ (row_field FMT body rest 2 14 ∙ c))
      (ap (λ (r : ℕ). walk 0 (record { rate = Some r; count = count }) rest) (sym (row_field FMT body rest 4 4 ∙ e)))))) in
      fields ∙ row_fmt FMT body rest l (omega arith) met next refl ∙ row_walk FMT body rest l [] rest refl (omega arith) met

  pub walk_fact : (body : List ℕ) → length body ≡ 4 → {n : ℕ} → field_at 4 0 (body ++ rest) ≡ n → (rate : Option ℕ)
      → walk 0 (record { rate = rate; count = Some n }) rest ≡ walk 0 (record { rate = rate; count = None }) (chunk FACT body ++ rest)
  unfolding fact_chunk
  walk_fact body s {n} e rate =
      let met : Met = record { rate = rate; count = None } in
      let l : length body < 256 ^ 4 = omega arith in
      let next : Met → FileResult Wave = λ after. walk 0 after rest in
      let fields : walk 0 (record { rate = rate; count = Some n }) rest ≡ fact_chunk rate None (chunk FACT body ++ rest) next =
      if_false _ (same _ _ (row_size FACT body rest l ∙ s))
      (ap (λ (k : ℕ). walk 0 (record { rate = rate; count = Some k }) rest) (sym (row_field FACT body rest 4 0 ∙ e))) in
      fields ∙ row_fact FACT body rest l (omega arith) met next refl refl ∙ row_walk FACT body rest l [] rest refl (omega arith) met

  pub walk_data : (body : List ℕ) (rate n : ℕ) → length body ≡ 4 * n → length body < 256 ^ 4
      → accepted (record { rate = rate; samples = samples_in n body }) ≡ walk 0 (record { rate = Some rate; count = Some n }) (chunk DATA body ++ rest)
  unfolding data_chunk
  walk_data body rate n s l =
      let met : Met = record { rate = Some rate; count = Some n } in
      let next : Met → FileResult Wave = λ after. walk 0 after rest in
      let bits : accepted (record { rate = rate; samples = samples_in n body }) ≡ data_chunk (Some rate) (Some n) (chunk DATA body ++ rest) =
      if_false _ (same _ _ (row_size DATA body rest l ∙ s))
      (ap (λ (k : List ℕ). accepted (record { rate = rate; samples = samples_in n k })) (sym (row_data DATA body rest l))) in
      bits ∙ row_samples DATA body rest l (omega arith) met next refl refl refl ∙ row_walk DATA body rest l [] rest refl (omega arith) met

  pub walk_other : (name : ℕ) (body pad : List ℕ) → Other name body pad → (met : Met) → walk 0 met rest ≡ walk 0 met (chunk name body ++ (pad ++ rest))
  walk_other name body pad o met =
      let next : Met → FileResult Wave = λ after. walk 0 after rest in
      row_other name body (pad ++ rest) o.size o.letters met next o.no_fmt o.no_fact o.no_data
      ∙ row_walk name body (pad ++ rest) o.size pad rest refl o.padded met

-- no field reaches past the body
field_within : (n k : ℕ) (body rest : List ℕ) → k + n ≤ length body → field_at n k (body ++ rest) ≡ field_at n k body
field_within n k body rest h =
    let g : n ≤ length (drop k body) = omega (arith, length-drop k body) in
    ap number_in (ap (take n) (drop-append-le k body rest (omega arith)) ∙ take-append-le n (drop k body) rest g)

-- the walk over a row of chunks
pub walk_row : (rest : List ℕ) {m m' : Met} {bs : List ℕ} → Row m bs m' → walk 0 m' rest ≡ walk 0 m (bs ++ rest)
walk_row rest none = refl
walk_row rest (other {m = m} {bs = bs} {name = name} {body = body} {pad = pad} o r) =
    let e : chunk name body ++ (pad ++ (bs ++ rest)) ≡ chunk name body ++ (pad ++ bs) ++ rest = simp append_assoc in
    walk_row rest r ∙ walk_other (bs ++ rest) name body pad o m ∙ ap (walk 0 m) e
walk_row rest (fmt {count = count} {bs = bs} {body = body} f r) =
    let w : (n k : ℕ) → k + n ≤ length body → field_at n k (body ++ (bs ++ rest)) ≡ field_at n k body = λ n k. field_within n k body (bs ++ rest) in
    walk_row rest r
    ∙ walk_fmt (bs ++ rest) body f.size (w 2 0 (omega arith) ∙ f.tag) (w 2 2 (omega arith) ∙ f.channels) (w 2 14 (omega arith) ∙ f.width) (w 4 4 (omega arith) ∙ f.rated) count
    ∙ ap (walk 0 (record { rate = None; count = count })) (sym (append_assoc (chunk FMT body) bs rest))
walk_row rest (fact {rate = rate} {bs = bs} {body = body} f r) =
    walk_row rest r
    ∙ walk_fact (bs ++ rest) body f.size (field_within 4 0 body (bs ++ rest) (omega arith) ∙ f.counted) rate
    ∙ ap (walk 0 (record { rate = rate; count = None })) (sym (append_assoc (chunk FACT body) bs rest))

-- ---- RIFF's own chunk
pub form_read : (chunks : List ℕ) → length (little_endian 4 WAVE ++ chunks) < 256 ^ 4
    → walk 0 (record { rate = None; count = None }) chunks ≡ reading (chunk RIFF (little_endian 4 WAVE ++ chunks))
unfolding reading
form_read chunks l =
    let body = little_endian 4 WAVE ++ chunks in
    let file = chunk RIFF body in
    let whole : file ++ [] ≡ file = append-nil file in
    let inner : body ++ [] ≡ body = append-nil body in
    let four : length body ≡ 4 + length chunks = length-append (little_endian 4 WAVE) chunks ∙ ap (λ (k : ℕ). k + length chunks) (length_little 4 WAVE) in
    let long : length file ≡ 8 + length body = (rw whole at (row_length RIFF body [])) ∙ omega arith in
    let twelve : 12 ≤ length file = omega arith in
    let id : ck_id file ≡ RIFF = rw whole at (row_id RIFF body [] (omega arith)) in
    let size : ck_size file ≡ length file - 8 = (rw whole at (row_size RIFF body [] l)) ∙ omega arith in
    let letters : take 4 body ≡ little_endian 4 WAVE = take_at (little_endian 4 WAVE) chunks 4 (length_little 4 WAVE) in
    let form : field_at 4 8 file ≡ WAVE = (rw (whole, inner) at (row_field RIFF body [] 4 0)) ∙ ap number_in letters ∙ number_little 4 WAVE (omega arith) in
    let past : drop 8 file ≡ body = rw (whole, inner) at (row_body RIFF body []) in
    let on : drop 12 file ≡ chunks = sym (drop-drop 4 8 file) ∙ ap (drop 4) past ∙ drop_at (little_endian 4 WAVE) chunks 4 (length_little 4 WAVE) in
    if_false _ (le-ltb _ _ twelve)
    (if_false _ (same _ _ id) (if_false _ (same _ _ size) (if_false _ (same _ _ form) (ap (walk 0 (record { rate = None; count = None })) (sym on)))))

-- A file of such a row, with data of four bytes for each sample of fact's count and anything behind it, is read.
pub row_read : {rate n : ℕ} {bs : List ℕ} (body after : List ℕ) → Row (record { rate = None; count = None }) bs (record { rate = Some rate; count = Some n })
    → length body ≡ 4 * n → length (little_endian 4 WAVE ++ (bs ++ (chunk DATA body ++ after))) < 256 ^ 4
    → accepted (record { rate = rate; samples = samples_in n body }) ≡ reading (chunk RIFF (little_endian 4 WAVE ++ (bs ++ (chunk DATA body ++ after))))
row_read {rate} {n} {bs} body after r s l =
    let a = length-append (little_endian 4 WAVE) (bs ++ (chunk DATA body ++ after)) in
    let b = length-append bs (chunk DATA body ++ after) in
    let few : length body < 256 ^ 4 = omega (arith, row_length DATA body after) in
    walk_data after body rate n s few ∙ walk_row (chunk DATA body ++ after) r ∙ form_read (bs ++ (chunk DATA body ++ after)) l
