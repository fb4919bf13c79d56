-- Changes of words that the lane may fill stay undrained between two calls.
use Rattle.std.proofs.Common.{◌≡◌, inl, ⊎_elim, ℕ, ◌+◌, ◌*◌, ◌/◌, ◌<◌, ◌≤◌, true, false, [], arith}
use Rattle.std.specs.List.{list_any}
use Rattle.std.proofs.lemmas.Bool.{and_parts, ne_eqb, not_from_false}
use Rattle.std.proofs.lemmas.List.Elements.{All-nil, All-same, All-weaker}
use Rattle.std.proofs.lemmas.List.Folds.{list_any_none}
use Rattle.solo_view.specs.declared.change.Change.{Change}
use Rattle.solo_view.specs.Blocks.{is_chunk, tells_nothing}
use Rattle.solo_view.specs.Changes.{is_in_line}
use Rattle.solo_view.specs.Held.{is_reserved}
use Rattle.solo_view.specs.View.{View}
use Rattle.pm_image.specs.Logs.{slot_line}
use Rattle.solo_world.specs.Fits.{ReservedChange}
use Rattle.solo_world.specs.Lawful.{FilledChange, HasDrained, OnlyFilled}
use Rattle.solo_world.specs.Records.{is_drained_slot}
use Rattle.solo_world.proofs.Reserved.{behind_page}

-- such a change is one in a block that the lane reserved
pub filled_reserved : (v : View) (c : Change) → FilledChange v c → ReservedChange v c
filled_reserved v c of = record { reserved = of.may.reserved; plain = inl of.may.plain }

-- it is one still, where the word is in such a block and tells of none
pub filled_again : (v v' : View) (c : Change) → (is_reserved v c.word ≡ true → is_reserved v' c.word ≡ true) → (tells_nothing v.lanes v.words c.word ≡ true → tells_nothing v'.lanes v'.words c.word ≡ true) → FilledChange v c → FilledChange v' c
filled_again v v' c kept silent of = record { whole = of.whole; may = record { reserved = kept of.may.reserved; plain = silent of.may.plain } }

-- the word lies behind the lanes' areas, so no slot of the lane's log has such a change
pub filled_behind : (v : View) (c : Change) → FilledChange v c → 512 + 1024 * v.lanes ≤ c.word
filled_behind v c of = let low = behind_page v.lanes (c.word / 512) (and_parts (is_chunk v.lanes (c.word / 512)) _ of.may.plain).0 in omega arith

pub filled_slot : (v : View) (slot : ℕ) → v.lane < v.lanes → slot < 64 → OnlyFilled v → is_drained_slot v slot ≡ true
filled_slot v slot inside low filled =
    not_from_false (list_any (is_in_line (slot_line v.lane slot)) v.changes)
    (list_any_none (is_in_line (slot_line v.lane slot)) v.changes
    (All-weaker (FilledChange v) (λ c. is_in_line (slot_line v.lane slot) c ≡ false) (λ c of. let behind = filled_behind v c of in ne_eqb (c.word / 8) (slot_line v.lane slot) (λ same. omega arith)) v.changes filled))

-- where nothing is undrained, nothing else is
pub none_filled : (v : View) → v.changes ≡ [] → OnlyFilled v
none_filled v none = All-same (FilledChange v) v.changes [] none (All-nil (FilledChange v))

-- whatever call draws, nothing else is undrained
pub only_filled : (v : View) → HasDrained v → OnlyFilled v
only_filled v drained = ⊎_elim (λ (none : v.changes ≡ []). none_filled v none) (λ (bare : (v.log.records ≡ []) × (v.log.entries ≡ []) × OnlyFilled v). bare.2) drained

-- a call that has a record or an entry has drained all
pub logged_drained : (v : View) → HasDrained v → (v.log.records ≡ [] → v.log.entries ≡ [] → ⊥) → v.changes ≡ []
logged_drained v drained some = ⊎_elim (λ (none : v.changes ≡ []). none) (λ (bare : (v.log.records ≡ []) × (v.log.entries ≡ []) × OnlyFilled v). absurd (some bare.0 bare.1)) drained
