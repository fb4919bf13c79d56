-- The entries of what may be published are of words of the zones, which an image's entries may change.
use Rattle.std.proofs.Common.{◌≡◌, IsTrue, ℕ, ◌+◌, ◌-◌, ◌*◌, ◌/◌, ◌%◌, ◌<◌, ◌≤◌, ◌&&◌, ◌||◌, eqb, leb, ltb, None, arith, inl, inr}
use Rattle.std.proofs.lemmas.Bool.{and_from, le-leb, lt-ltb, or_left, or_right}
use Rattle.pm_image.specs.Blocks.{chunk_word, descriptor_word}
use Rattle.pm_image.specs.Contents.{data_words, size_in}
use Rattle.pm_image.specs.HeapFaults.{heap_fault}
use Rattle.pm_image.specs.LogFaults.{in_chunk, in_descriptors, is_target}
use Rattle.pm_image.proofs.FaultFree.{block_good}
use Rattle.pm_image.proofs.HeapWords.{object_fits}
use Rattle.solo_model.specs.Actions.Action.{SetWord}
use Rattle.solo_crash.specs.HeapChanges.HeapChange.{AllocatesChunks, AllocatesInRun, FreesChunks, FreesInRun}
use Rattle.solo_crash.specs.Publishing.{CanPublish, Published, entry_published}
use Rattle.solo_crash.specs.Publishing.Published.{Changes, Performs}
use Rattle.solo_crash.proofs.Apart.{IsInZone, good_chunk, in_its_zone}
use Rattle.solo_crash.proofs.ObjectBytes.{begins_word}
use Rattle.solo_crash.proofs.Standing.{Stands, block_stands}
use Rattle.solo_crash.specs.Performing.{entry_for}

-- a word of the zones, of which an image may have an entry
pub record IsTarget (lanes zones w : ℕ) : Type 0 where
  pub behind : 512 + 1024 * lanes ≤ w
  pub inside : w < 512 + 1024 * lanes + 33280 * zones
  pub may : IsTrue (is_target lanes zones w)

descriptor_target : (lanes zones c : ℕ) → c < 64 * zones → IsTarget lanes zones (descriptor_word lanes c)
descriptor_target lanes zones c inside =
    let w : ℕ = descriptor_word lanes c in
    let first : ℕ = 512 + 1024 * lanes in
    record {
      behind = omega arith;
      inside = omega (arith, inside);
      may =
          or_left (eqb w 64 || in_descriptors lanes zones w) (in_chunk lanes zones w)
          (or_right (eqb w 64) (in_descriptors lanes zones w)
          (and_from (leb first w && ltb ((w - first) / 33280) zones) (ltb ((w - first) % 33280) 64)
          (and_from (leb first w) (ltb ((w - first) / 33280) zones) (le-leb first w (omega arith)) (lt-ltb ((w - first) / 33280) zones (omega (arith, inside))))
          (lt-ltb ((w - first) % 33280) 64 (omega arith))));
    }

-- a word of a chunk is one
chunk_target : (lanes zones c w : ℕ) → c < 64 * zones → chunk_word lanes c ≤ w → w < 33792 + 1024 * lanes + 33280 * (c / 64) → IsTarget lanes zones w
chunk_target lanes zones c w inside from to =
    let first : ℕ = 512 + 1024 * lanes in
    let which : (w - first) / 33280 ≡ c / 64 = omega (arith, from, to) in
    record {
      behind = omega (arith, from);
      inside = omega (arith, to, inside);
      may =
          or_right (eqb w 64 || in_descriptors lanes zones w) (in_chunk lanes zones w)
          (and_from (leb first w && ltb ((w - first) / 33280) zones) (leb 512 ((w - first) % 33280))
          (and_from (leb first w) (ltb ((w - first) / 33280) zones) (le-leb first w (omega (arith, from))) (lt-ltb ((w - first) / 33280) zones (omega (arith, which, inside))))
          (le-leb 512 ((w - first) % 33280) (omega (arith, from, to))));
    }

-- so is the word of what may be published
pub published_target : (w : ℕ → ℕ) (lanes zones : ℕ) → heap_fault w lanes zones ≡ None → (s : Published) → CanPublish w lanes zones s → IsTarget lanes zones (entry_published lanes s).word
published_target w lanes zones none (Performs a) (inr unseen) =
    let at = unseen.in_chunk in let from = at.from in let to = at.to in
    chunk_target lanes zones at.chunk (entry_for a).word at.in_zones from (omega (arith, to))
published_target w lanes zones none (Performs (SetWord id off value)) (inl can) =
    let stands : Stands w lanes zones can.block = block_stands w lanes zones can.block can.is_there in
    let zone : IsInZone lanes stands.chunk can.block = in_its_zone w lanes stands.chunk can.block (good_chunk w lanes zones stands.chunk none stands.in_zones) stands.is in
    let fits : 8 + data_words (size_in w can.block) ≤ 8 * can.block.lines = object_fits w can.block (block_good w lanes zones can.block none can.is_there) in
    let word : can.block.place % 8 ≡ 0 = begins_word w lanes zones can.block can.is_there in
    let from = zone.begins in let to = zone.ends in
    let begins = can.begins in let inside = can.inside in
    chunk_target lanes zones stands.chunk ((id.off + off) / 8) stands.in_zones (omega (arith, from, begins)) (omega (arith, to, fits, word, begins, inside))
published_target w lanes zones none (Changes (AllocatesInRun c lines index kind bytes)) can = chunk_target lanes zones c (chunk_word lanes c) can.in_zones (omega arith) (omega arith)
published_target w lanes zones none (Changes (AllocatesChunks c chunks kind bytes)) can = descriptor_target lanes zones c can.1.in_zones
published_target w lanes zones none (Changes (FreesInRun c lines index)) can = chunk_target lanes zones c (chunk_word lanes c) can.in_zones (omega arith) (omega arith)
published_target w lanes zones none (Changes (FreesChunks c chunks)) can = descriptor_target lanes zones c can.in_zones
