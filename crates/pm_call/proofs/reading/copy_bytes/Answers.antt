use Rattle.std.proofs.Common.{◌≡◌, ◌+◌, ◌-◌, ◌%◌, [], ◌∷◌, List, ℕ, slice_index, ap, sym, ◌∙◌, arith, rules}
use Rattle.std.proofs.lemmas.Slice.{between-put_mid}
use Rattle.pm_words.proofs.Patching.{bytes_of-one}
use Rattle.pm_words.specs.Words.{bytes_of}
use Rattle.pm_call.proofs.ReadBytes.{byte_copied}
use Rattle.pm_call.proofs.reading.copy_bytes.Goals as goal

pub returns-clause-inside : goal.returns-clause-inside
returns-clause-inside c k within same =
    let a : ℕ = c.saturating_sub-skipped.result in
    let e : ℕ = c.min-end.result in
    let f : ℕ = c.saturating_sub-from.result in
    let skipped = c.saturating_sub-skipped.ensures in
    let ends = c.min-end.ensures in
    let starts = c.saturating_sub-from.ensures in
    let long = c.requires.below in
    byte_copied _ c.copy_from_slice.new.self c.to_le_bytes-bytes.result a (e - a) f k (omega (arith, skipped, same)) (omega (arith, skipped, starts, ends, same, within))
    (between-put_mid a (e - a) c.args.into.now c.copy_from_slice.new.self e (omega (arith, skipped, long)) (search rules)) (search rules)
    ∙ (ap (λ (bytes : List ℕ). slice_index bytes (f + (k - a))) (c.to_le_bytes-bytes.ensures ∙ sym (bytes_of-one c.args.x)) ∙ ap (slice_index (bytes_of (c.args.x ∷ []))) (let to : f + (k - a) ≡ (c.args.place + k) % 8 = omega (arith, skipped, starts, same) in to))
