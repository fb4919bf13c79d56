use Rattle.std.proofs.Common.{◌≡◌, ◌+◌, ◌-◌, ◌*◌, [], ◌∷◌, List, ℕ, slice_index, ap, sym, ◌∙◌, arith, rules}
use Rattle.std.proofs.lemmas.Slice.{between-put_mid}
use Rattle.pm_words.proofs.Patching.{bytes_of-one}
use Rattle.pm_words.specs.Words.{bytes_of}
use Rattle.solo_tx.proofs.Parts.{copied}
use Rattle.solo_tx.proofs.words.copy_part.Goals as goal

pub returns-clause-inside : goal.returns-clause-inside
returns-clause-inside c k within from to =
    let a : ℕ = c.saturating_sub-skipped.result in
    let e : ℕ = c.min-end.result in
    let f : ℕ = c.saturating_sub-from.result in
    let skipped = c.saturating_sub-skipped.ensures in
    let ends = c.min-end.ensures in
    let starts = c.saturating_sub-from.ensures in
    let long = c.requires.below in
    copied _ c.copy_from_slice.new.self c.to_le_bytes-bytes.result a (e - a) f k (omega (arith, skipped, from)) (omega (arith, skipped, starts, ends, from, to, within))
    (between-put_mid a (e - a) c.args.into.now c.copy_from_slice.new.self e (omega (arith, skipped, long)) (search rules)) (search rules)
    ∙ (ap (λ (bytes : List ℕ). slice_index bytes (f + (k - a))) (c.to_le_bytes-bytes.ensures ∙ sym (bytes_of-one c.args.x)) ∙ ap (slice_index (bytes_of (c.args.x ∷ []))) (let same : f + (k - a) ≡ c.args.place + k - 8 * c.args.word = omega (arith, skipped, starts, from) in same))
