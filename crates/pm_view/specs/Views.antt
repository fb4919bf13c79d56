-- What each step does to a lane's view. A step puts what it brings at the head of its list.
use Rattle.std.specs.Prelude.{ℕ, zero, suc, ◌+◌, ◌/◌, ◌==◌, Bool, true, false, not, List, [], ◌∷◌, ◌++◌, Option, Some, None, bit_and, bit_or}
use Rattle.std.specs.List.{filter}
use Rattle.std.specs.Int.{bit_not, w64}
use Rattle.std.specs.Option.{option_map}
use Rattle.pm_layout.specs.declared.shape.Shape.{Shape}
use Rattle.pm_objects.specs.declared.calls.Operation.{Operation}
use Rattle.pm_objects.specs.declared.calls.Operation.TheVariants.{Reserve, DeferFree, SetValue, Publish, Cancel}
use Rattle.pm_objects.specs.declared.history.Value.{Value}
use Rattle.pm_objects.specs.declared.history.Value.TheVariants.{Offset}
use Rattle.pm_view.specs.declared.occ.Occ.{Occ}
use Rattle.pm_view.specs.declared.occ.Occ.TheVariants.{Run, Zone}
use Rattle.pm_view.specs.Bits.{all_bits}
use Rattle.pm_view.specs.Changes.{Undrained, flushed, drained}
use Rattle.pm_view.specs.Entries.{Entry, redos}
use Rattle.pm_view.specs.Parts.{Part, GenerationPart, SealPart, EntryPart, SlotPart, RootPart, DescriptorPart, ChunkPart, OtherPart, part_of}
use Rattle.pm_view.specs.Log.{Phase, Idle, Open, Drawn, Sealing, Applying, Clearing, Retiring, Voiding, Log, new_log, log_stored, log_changed, log_drained, phase_drawn}
use Rattle.pm_view.specs.Claims.{Claim, Took, Raised, Gave, SawDescriptor, SawBitmap, Reserved, Released, Marked, Drained, Decided, Knows, class, pictured}
use Rattle.pm_view.specs.Steps.{Step}
use Rattle.pm_view.specs.Steps.Step.{Load, Store, Or, And, Flush, Drain, TakeWrite, TakeRead, Raise, Give, ZoneTry, ZoneGive, Occupied, Occupy, Vacate, Draw, NumberSeen, StopSeen, SetStop, Tell}
use Rattle.pm_view.specs.View.{View, Seen, Told, entry_drawn}

abbrev pub shape_of : View → Shape
shape_of v = v.fixed.shape

-- what the word is to the lane, and what it has last seen or made of it
abbrev pub part_in : View → ℕ → Part
part_in v w = part_of v.fixed.shape v.fixed.lane w

abbrev pub value_in : View → ℕ → Option ℕ
value_in v w = pictured v.fixed.shape v.claims w

-- what a word was that the lane stores into, where what it knows of it is the memory's for sure: of its own slots and entries it only knows what
-- it stored, and a run's descriptor may be another's while its entries are applied
abbrev pub was_of : Phase → Part → Option ℕ → Option ℕ
was_of phase SlotPart known = None
was_of phase EntryPart known = None
was_of (Applying todo) (DescriptorPart c) known = None
was_of phase part known = known

abbrev pub was_in : View → ℕ → Option ℕ
was_in v w = was_of v.log.phase (part_in v w) (value_in v w)

-- the step told something that is no value of a word
abbrev pub with_seen : Step → View → View
with_seen s v = record v { seen = s ∷ v.seen }

-- ---- loads: before its number is drawn a lane learns from them

abbrev pub seen_by : Part → ℕ → List Claim → List Claim
seen_by (DescriptorPart c) x claims = SawDescriptor c x ∷ claims
seen_by (ChunkPart c zero) x claims = SawBitmap c x ∷ claims
seen_by part x claims = claims

abbrev pub learned : Phase → Part → ℕ → ℕ → List Claim → List Claim
learned Idle part w x claims = Knows w x ∷ seen_by part x claims
learned Open part w x claims = Knows w x ∷ seen_by part x claims
learned phase part w x claims = claims

-- ---- stores

-- before its number is drawn a lane stores a descriptor as it makes a run
abbrev pub marked_by : Phase → Part → ℕ → List Claim → List Claim
marked_by Idle (DescriptorPart c) x claims = Marked c (x / 256) ∷ claims
marked_by Open (DescriptorPart c) x claims = Marked c (x / 256) ∷ claims
marked_by phase part x claims = claims

-- one more change, of bits of a word that was this, where that is known, and becomes x, with the log as the step leaves it
abbrev pub changed_from : Step → View → ℕ → ℕ → Option ℕ → ℕ → List Claim → Log → View
changed_from s v w mask was x claims log = record v {
  claims = Knows w x ∷ claims;
  changes = record { word = w; mask = mask; old = option_map (λ old. bit_and old mask) was; flushed = false } ∷ v.changes;
  calls = s ∷ v.calls;
  log = log;
}

-- a store finds nothing
abbrev pub changed : Step → View → ℕ → ℕ → ℕ → List Claim → Log → View
changed s v w mask x claims log = changed_from s v w mask (was_in v w) x claims log

-- ---- drains

-- the seal's drain decides the call
abbrev pub decided_by : Phase → List Entry → List Claim → List Claim
decided_by (Sealing n) entries claims = Decided (redos entries) ∷ claims
decided_by phase entries claims = claims

-- once nothing is undrained the log goes on
abbrev pub claims_drained : List Undrained → Log → List Claim → List Claim
claims_drained [] log claims = decided_by log.phase log.entries claims
claims_drained (c ∷ left) log claims = claims

abbrev pub log_left : List Undrained → Log → Log
log_left [] log = log_drained log.phase log
log_left (c ∷ left) log = log

abbrev pub drained_to : View → List Undrained → View
drained_to v left = record v { claims = claims_drained left v.log (Drained left ∷ v.claims); changes = left; calls = Drain ∷ v.calls; log = log_left left v.log }

-- ---- locks

abbrev pub with_won : Bool → Claim → List Claim → List Claim
with_won true claim claims = claim ∷ claims
with_won false claim claims = claims

abbrev pub zone_taken : Bool → ℕ → List ℕ → List ℕ
zone_taken true zone zones = zone ∷ zones
zone_taken false zone zones = zones

-- ---- occupancy words

-- two occupancy words are one
abbrev pub is_same_occ : Occ → Occ → Bool
is_same_occ (Run place) (Run other) = place == other
is_same_occ (Zone zone) (Zone other) = zone == other
is_same_occ at other = false

-- what the lane last saw or made of an occupancy word
abbrev pub with_seen_at : Occ → Seen → Option ℕ → Option ℕ
with_seen_at at s rest = Rattle.std.specs.Prelude.cond (is_same_occ s.at at) (Some s.bits) rest

abbrev pub occupancy_of : List Seen → Occ → Option ℕ
occupancy_of [] at = None
occupancy_of (s ∷ t) at = with_seen_at at s (occupancy_of t at)

-- the words seen, after a change of one that was seen
abbrev pub occupancy_with : Occ → Option ℕ → List Seen → List Seen
occupancy_with at None seen = seen
occupancy_with at (Some x) seen = record { at = at; bits = x } ∷ seen

abbrev pub after_occupy : View → Occ → ℕ → View
after_occupy v at bits = record v {
  claims = Reserved at bits ∷ v.claims;
  occupancy = occupancy_with at (option_map (λ x. bit_or x bits) (occupancy_of v.occupancy at)) v.occupancy;
}

abbrev pub occupied : Bool → View → Occ → ℕ → View
occupied true v at bits = after_occupy v at bits
occupied false v at bits = v

abbrev pub vacated : View → Occ → ℕ → View
vacated v at bits = record v {
  claims = Released at bits ∷ v.claims;
  occupancy = occupancy_with at (option_map (λ x. bit_and x (bit_not w64 bits)) (occupancy_of v.occupancy at)) v.occupancy;
}

-- ---- calls

-- a call begins where none is open
abbrev pub begun : Phase → View → View
begun Idle v = record v { log = new_log Open v.log.generation; seen = []; call = []; number = None; published = [] }
begun phase v = v

-- the call takes its number
abbrev pub numbered : View → ℕ → View
numbered v n = record v {
  log = record v.log { phase = phase_drawn n v.log.records v.log.entries };
  number = Some (suc n);
  entries = entry_drawn n v ∷ v.entries;
}

-- the pending actions after an operation that was answered so: one more, or none where they were published or given up
abbrev pub actions_told : Operation → Option Value → List Told → List Told
actions_told (Reserve size kind) (Some (Offset off)) actions = actions ++ record { operation = Reserve size kind; reply = Some (Offset off) } ∷ []
actions_told (DeferFree id) None actions = actions ++ record { operation = DeferFree id; reply = None } ∷ []
actions_told (SetValue id off value) None actions = actions ++ record { operation = SetValue id off value; reply = None } ∷ []
actions_told Publish None actions = []
actions_told Cancel None actions = []
actions_told operation reply actions = actions

-- what the open call published, after an operation that was answered so with these actions pending
abbrev pub published_told : Operation → Option Value → List Told → List Told → List Told
published_told Publish None actions published = published ++ actions
published_told operation reply actions published = published

-- ---- THE VIEW AFTER A STEP

abbrev pub after : View → Step → View
after v (Load w x) = record v { claims = learned v.log.phase (part_in v w) w x v.claims }
after v (Store w x) = changed (Store w x) v w all_bits x (marked_by v.log.phase (part_in v w) x v.claims) (log_stored (shape_of v) (class v.claims) v.log.phase (part_in v w) x v.log)
after v (Or w bits found) = changed_from (Or w bits found) v w bits (Some found) (bit_or found bits) v.claims (log_changed v.log.phase v.log)
after v (And w bits found) = changed_from (And w bits found) v w (bit_not w64 bits) (Some found) (bit_and found bits) v.claims (log_changed v.log.phase v.log)
after v (Flush line) = record v { changes = flushed line v.changes; calls = Flush line ∷ v.calls }
after v Drain = drained_to v (drained v.changes)
after v (TakeWrite line won) = with_seen (TakeWrite line won) (record v { claims = with_won won (Took line true) v.claims })
after v (TakeRead line won) = with_seen (TakeRead line won) (record v { claims = with_won won (Took line false) v.claims })
after v (Raise line won) = with_seen (Raise line won) (record v { claims = with_won won (Raised line) v.claims })
after v (Give line) = record v { claims = Gave line ∷ v.claims }
after v (ZoneTry zone won) = with_seen (ZoneTry zone won) (record v { zones = zone_taken won zone v.zones })
after v (ZoneGive zone) = record v { zones = filter (λ other. not (other == zone)) v.zones }
after v (Occupied at found) = record v { occupancy = record { at = at; bits = found } ∷ v.occupancy }
after v (Occupy at bits won) = with_seen (Occupy at bits won) (occupied won v at bits)
after v (Vacate at bits) = vacated v at bits
after v (Draw n) = numbered v n
after v (NumberSeen n) = with_seen (NumberSeen n) (begun v.log.phase v)
after v (StopSeen set) = with_seen (StopSeen set) v
after v SetStop = v
after v (Tell operation reply) = record v {
  call = v.call ++ record { operation = operation; reply = reply } ∷ [];
  actions = actions_told operation reply v.actions;
  published = published_told operation reply v.actions v.published;
}

unfoldable pub after_all : View → List Step → View
after_all v [] = v
after_all v (s ∷ steps) = after_all (after v s) steps
