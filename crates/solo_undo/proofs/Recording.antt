-- A record of a span is spelled as the view has its words.
use Rattle.std.proofs.Common.{◌≡◌, ℕ, ◌-◌, List, ◌++◌, length, replicate, slice_index, sym, ap}
use Rattle.std.proofs.lemmas.List.FromFn.{length-map-range_with_len}
use Rattle.solo_view.specs.View.{View}
use Rattle.solo_world.specs.Records.{spelled}
use Rattle.solo_world.specs.Sequences.{Sequence, Ready}
use Rattle.solo_world.specs.declared.lane.Span.{Span}
use Rattle.solo_undo.specs.Sequences.{looks_from, recorded_in, words_of_span, writes_slot}

-- the slot's words behind the loads of a span
abbrev pub writes_span : ℕ → ℕ → ℕ → Span → View → Sequence
writes_span lane generation slot s v = writes_slot lane slot (spelled generation (recorded_in v s))

pub spelled_as_seen : (old : View → Type 0) (lane generation slot : ℕ) (s : Span) (found words : List ℕ)
    → ((v : View) → old v → Ready v (looks_from s.word s.count v) → found ≡ words_of_span v s ++ replicate (4 - s.count) 0)
    → ((ws : List ℕ) → length ws ≡ s.count → found ≡ ws ++ replicate (4 - s.count) 0 → words ≡ spelled generation (record { word = s.word; old = ws }))
    → (v : View) → old v → Ready v (looks_from s.word s.count v) → writes_span lane generation slot s v ≡ writes_slot lane slot words
spelled_as_seen old lane generation slot s found words as_seen as_spelled v seen r =
    ap (writes_slot lane slot) (sym (as_spelled (words_of_span v s) (length-map-range_with_len (slice_index v.words) s.word s.count) (as_seen v seen r)))
