-- Bytes that are written inside an object are its bytes from there on, and touch no word of anything else.
use Rattle.std.proofs.Common.{◌≡◌, ◌⊎◌, ⊎_elim, inl, inr, ℕ, ◌+◌, ◌-◌, ◌/◌, ◌%◌, ◌<◌, ◌≤◌, List, length, get_or, None, sym, ◌∙◌, ap, arith}
use Rattle.std.proofs.lemmas.Bool.{cases_lt}
use Rattle.std.proofs.lemmas.Grind.{div_ceil_times}
use Rattle.std.proofs.lemmas.List.{ext_get_or}
use Rattle.pm_words.specs.Words.{AreBytes}
use Rattle.pm_layout.specs.Sizes.{class_of}
use Rattle.pm_objects.specs.Pool.{block_lines}
use Rattle.pm_header.specs.declared.header.Header.{Header}
use Rattle.pm_objects.specs.declared.pool.PoolView.{PoolView}
use Rattle.pm_image.specs.declared.block.Block.{Block}
use Rattle.pm_image.specs.Contents.{bytes_in, data_words, header_word, offset_in, size_in}
use Rattle.pm_image.specs.HeapFaults.{heap_fault}
use Rattle.pm_image.proofs.Pools.{length-bytes_in}
use Rattle.solo_model.specs.Bytes.{put_bytes, put_object}
use Rattle.solo_crash.specs.Held.{HoldsPool}
use Rattle.solo_crash.specs.NewObjects.{HasNewObject, fresh_word}
use Rattle.solo_crash.specs.Writes.{IsWritten, KeepsOthers, WritesObject}
use Rattle.solo_crash.proofs.Bytewise.{byte_kept, byte_written, length-put, put_among, put_before, put_behind}
use Rattle.solo_crash.proofs.Covered.{covered_has_byte}
use Rattle.solo_crash.proofs.ObjectBytes.{begins_word, byte_of_object}
use Rattle.solo_crash.proofs.OneObject.{pool_put, sizes_kept}

pub write_keeps_others : (w v : ℕ → ℕ) (lanes zones at : ℕ) (block : Block) (bytes : List ℕ) → WritesObject w v lanes zones block at bytes → KeepsOthers w v block
write_keeps_others w v lanes zones at block bytes write =
    let begins : block.place % 8 ≡ 0 = begins_word w lanes zones block write.is_there in
    let enough = div_ceil_times (size_in w block) 8 (omega arith) in
    let fits : at + length bytes ≤ size_in w block = write.inside in
    record {
      same = λ i outside. write.is_written.others i (λ there.
          let has = covered_has_byte (offset_in block + at) (length bytes) i there in
          ⊎_elim
          (λ (before : i < block.place / 8 + 8). omega arith)
          (λ (behind : block.place / 8 + 8 + data_words (size_in w block) ≤ i). omega arith)
          outside);
    }

-- the bytes are written into the words behind a block's header, which stands at a word
pub record WritesBehind (w v : ℕ → ℕ) (block : Block) (at : ℕ) (bytes : List ℕ) : Type 0 where
  pub begins : block.place % 8 ≡ 0
  pub inside : at + length bytes ≤ size_in w block
  pub are_bytes : AreBytes bytes
  pub is_written : IsWritten w v (offset_in block + at) bytes

-- byte k of them
written_byte : (w v : ℕ → ℕ) (at k : ℕ) (block : Block) (bytes : List ℕ) → WritesBehind w v block at bytes → k < size_in w block → size_in v block ≡ size_in w block
    → get_or (bytes_in v block) k 0 ≡ get_or (put_bytes at bytes (bytes_in w block)) k 0
written_byte w v at k block bytes write inside size =
    let begins : block.place % 8 ≡ 0 = write.begins in
    let fits : at + length bytes ≤ size_in w block = write.inside in
    let old : length (bytes_in w block) ≡ size_in w block = length-bytes_in w block in
    let n : ℕ = offset_in block + k in
    let place : ℕ = offset_in block + at in
    let kept : (n < place) ⊎ (place + length bytes ≤ n) → get_or (bytes_in v block) k 0 ≡ get_or (bytes_in w block) k 0 =
    λ outside. byte_of_object v block k begins (omega arith) ∙ byte_kept w v place bytes n write.are_bytes write.is_written outside ∙ sym (byte_of_object w block k begins inside) in
    ⊎_elim
    (λ (before : k < at). kept (inl (omega arith)) ∙ sym (put_before at bytes (bytes_in w block) k (omega arith) before))
    (λ (from : at ≤ k). ⊎_elim
    (λ (to : k < at + length bytes).
    let index : n - place ≡ k - at = omega arith in
    byte_of_object v block k begins (omega arith)
    ∙ byte_written w v place bytes n write.are_bytes write.is_written (omega arith) (omega arith)
    ∙ ap (λ (j : ℕ). get_or bytes j 0) index
    ∙ sym (put_among at bytes (bytes_in w block) k (omega arith) from to))
    (λ (behind : at + length bytes ≤ k). kept (inr (omega arith)) ∙ sym (put_behind at bytes (bytes_in w block) k (omega arith) behind))
    (cases_lt k (at + length bytes)))
    (cases_lt k at)

pub written_behind : (w v : ℕ → ℕ) (at : ℕ) (block : Block) (bytes : List ℕ) → WritesBehind w v block at bytes → size_in v block ≡ size_in w block → bytes_in v block ≡ put_bytes at bytes (bytes_in w block)
written_behind w v at block bytes write size =
    let fits : at + length bytes ≤ size_in w block = write.inside in
    let old : length (bytes_in w block) ≡ size_in w block = length-bytes_in w block in
    let new : length (bytes_in v block) ≡ size_in v block = length-bytes_in v block in
    let put : length (put_bytes at bytes (bytes_in w block)) ≡ length (bytes_in w block) = length-put at bytes (bytes_in w block) (omega arith) in
    ext_get_or 0 (bytes_in v block) (put_bytes at bytes (bytes_in w block)) (new ∙ size ∙ sym old ∙ sym put)
    (λ k inside. written_byte w v at k block bytes write (omega arith) size)

pub written_bytes_in : (w v : ℕ → ℕ) (lanes zones at : ℕ) (block : Block) (bytes : List ℕ) → heap_fault w lanes zones ≡ None → WritesObject w v lanes zones block at bytes
    → bytes_in v block ≡ put_bytes at bytes (bytes_in w block)
written_bytes_in w v lanes zones at block bytes none write =
    let keeps : KeepsOthers w v block = write_keeps_others w v lanes zones at block bytes write in
    written_behind w v at block bytes
    (record { begins = begins_word w lanes zones block write.is_there; inside = write.inside; are_bytes = write.are_bytes; is_written = write.is_written })
    (sizes_kept w v lanes zones block block none write.is_there keeps write.is_there)

-- so a new object has them then
pub new_object_written : (w v : ℕ → ℕ) (block : Block) (kind at : ℕ) (bytes new : List ℕ) → block.place % 8 ≡ 0 → HasNewObject w block kind bytes → at + length new ≤ length bytes → AreBytes new
    → IsWritten w v (offset_in block + at) new → HasNewObject v block kind (put_bytes at new bytes)
new_object_written w v block kind at bytes new begins object fits are written =
    let size : size_in w block ≡ length bytes = object.header 1 (omega arith) in
    let header : (place : ℕ) → place < 8 → header_word v block place ≡ header_word w block place =
    λ place low. written.others (block.place / 8 + place) (λ there. let has = covered_has_byte (offset_in block + at) (length new) (block.place / 8 + place) there in omega (arith, low, has.0, has.1, has.2, begins)) in
    let long : length (put_bytes at new bytes) ≡ length bytes = length-put at new bytes (omega (arith, fits)) in
    record {
      some = let some = object.some in omega (arith, some, long);
      most = let most = object.most in omega (arith, most, long);
      of_size = ap (λ (n : ℕ). block_lines (class_of n)) long ∙ object.of_size;
      header = λ place low. header place low ∙ (object.header place low ∙ ap (λ (n : ℕ). fresh_word kind n place) (sym long));
      holds =
          written_behind w v at block new (record { begins = begins; inside = omega (arith, fits, size); are_bytes = are; is_written = written }) (header 1 (omega arith))
          ∙ ap (put_bytes at new) object.holds;
    }

pub written_pool : (w v : ℕ → ℕ) (lanes zones at : ℕ) (header : Header) (pool : PoolView) (block : Block) (bytes : List ℕ) → HoldsPool w lanes zones header pool → WritesObject w v lanes zones block at bytes
    → HoldsPool v lanes zones header (record pool { objects = put_object (offset_in block) at bytes pool.objects })
written_pool w v lanes zones at header pool block bytes holds write =
    pool_put w v lanes zones at header pool bytes block holds write.is_there (write_keeps_others w v lanes zones at block bytes write) (written_bytes_in w v lanes zones at block bytes holds.no_fault write)
