-- The steps by which a lane makes an object draw no number, so that they lead on from view to view; and those that store and flush forget no word.
use Rattle.std.proofs.Common.{◌≡◌, ℕ, zero, suc, ◌+◌, ◌/◌, Bool, true, false, cond, eqb, ltb, Contains, List, [], ◌∷◌, ◌++◌, length, map, refl}
use Rattle.std.proofs.lemmas.Bool.{false≢true}
use Rattle.std.proofs.lemmas.List.Elements.{Contains-append_right}
use Rattle.solo_view.specs.declared.occ.Occ.{Occ}
use Rattle.solo_view.specs.Blocks.{bitmap_word, descriptor_word}
use Rattle.solo_view.specs.Counts.{max_changes, unflushed_lines}
use Rattle.solo_view.specs.Founds.{FoundAlone}
use Rattle.solo_view.specs.Held.{is_held}
use Rattle.solo_view.specs.Steps.{Step}
use Rattle.solo_view.specs.Steps.Step.{Load, Store, Or, And, Flush, Drain, TakeWrite, TakeRead, Raise, Give, ZoneTry, ZoneGive, Occupied, Occupy, Vacate, Draw, NumberSeen, StopSeen, SetStop, Tell}
use Rattle.solo_view.specs.View.{View}
use Rattle.solo_view.specs.Views.{after, after_all}
use Rattle.solo_world.specs.Searches.{Searches, is_search}
use Rattle.solo_world.specs.Sequences.{IsForeseen, Ready, Sequence, counted, drains, flushes, in_turn, makes_room, nothing, one, settles, stores}
use Rattle.solo_undo.specs.Sequences.{persists}
use Rattle.solo_fresh.specs.Filling.{fills, fills_line, fills_lines, stores_line}
use Rattle.solo_fresh.specs.Making.{behind_first, keeps_first, makes_run, run_at, run_descriptor, stores_persistent}
use Rattle.solo_crash.specs.HeldHistory.{DrawsEnded}
use Rattle.solo_crash.specs.Leading.{Leads}

-- ---- sequences that are put together of stores, flushes and drains

module _ (P : Step → Type 0) (store : (w x : ℕ) → P (Store w x)) (flush : (line : ℕ) → P (Flush line)) (drain : P Drain) where
  abbrev pub Every : List Step → Type 0
  Every [] = Unit {0}
  Every (s ∷ steps) = P s × Every steps

  every_append : (xs ys : List Step) → Every xs → Every ys → Every (xs ++ ys)
  every_append [] ys first second = second
  every_append (s ∷ xs) ys first second = (first.0, every_append xs ys first.1 second)

  abbrev pub Are : Sequence → Type 0
  Are f = (v : View) → Every (f v)

  pub are_in_turn : (f g : Sequence) → Are f → Are g → Are (in_turn f g)
  unfolding in_turn
  are_in_turn f g first second v = every_append (f v) (g (after_all v (f v))) (first v) (second (after_all v (f v)))

  pub are_one : (s : Step) → P s → Are (one s)
  unfolding one
  are_one s is v = (is, tt)

  pub are_counted : (steps : ℕ → Sequence) → ((i : ℕ) → Are (steps i)) → (n : ℕ) → Are (counted steps n)
  unfolding counted nothing
  are_counted steps each zero v = tt
  are_counted steps each (suc n) v = are_in_turn (counted steps n) (steps n) (are_counted steps each n) (each n) v

  flushed_lines : (lines : List ℕ) → Every (map Flush lines)
  flushed_lines [] = tt
  flushed_lines (line ∷ lines) = (flush line, flushed_lines lines)

  either : (b : Bool) (xs ys : List Step) → Every xs → Every ys → Every (cond b xs ys)
  either true xs ys first second = first
  either false xs ys first second = second

  pub are_settles : Are settles
  unfolding settles flushes drains
  are_settles = are_in_turn flushes drains (λ v. flushed_lines (unflushed_lines v.changes)) (λ v. either (eqb (length v.changes) 0) [] (Drain ∷ []) tt (drain, tt))

  pub are_room : Are makes_room
  unfolding makes_room
  are_room v = either (ltb (length v.changes) max_changes) [] (settles v) tt (are_settles v)

  pub are_stores : (w x : ℕ) → Are (stores w x)
  unfolding stores
  are_stores w x = are_in_turn makes_room (one (Store w x)) are_room (are_one (Store w x) (store w x))

  pub are_persistent : (w x : ℕ) → Are (stores_persistent w x)
  unfolding stores_persistent persists
  are_persistent w x = are_in_turn (stores w x) (persists (w / 8)) (are_stores w x) (are_in_turn (one (Flush (w / 8))) (one Drain) (are_one (Flush (w / 8)) (flush (w / 8))) (are_one Drain drain))

  pub are_fills : (line lines kind size : ℕ) → Are (fills line lines kind size)
  unfolding fills fills_lines fills_line stores_line
  are_fills line lines kind size =
      are_in_turn (fills_lines line lines kind size) (one Drain)
      (are_counted (fills_line line kind size)
      (λ i. are_in_turn (stores_line line kind size i) (one (Flush (line + i))) (are_counted _ (λ j. are_stores _ _) 8) (are_one (Flush (line + i)) (flush (line + i)))) lines)
      (are_one Drain drain)

  pub are_makes_run : ((at : Occ) (bits : ℕ) → P (Vacate at bits)) → (lanes page lines : ℕ) → Are (makes_run lanes page lines)
  unfolding makes_run keeps_first
  are_makes_run vacate lanes page lines =
      are_in_turn (stores_persistent (bitmap_word page) 0) (in_turn (stores_persistent (descriptor_word lanes page) (run_descriptor lines)) (keeps_first page lines)) (are_persistent (bitmap_word page) 0)
      (are_in_turn (stores_persistent (descriptor_word lanes page) (run_descriptor lines)) (keeps_first page lines) (are_persistent (descriptor_word lanes page) (run_descriptor lines))
      (are_one (Vacate (run_at page) (behind_first lines)) (vacate (run_at page) (behind_first lines))))

-- ---- they lead on

-- the step draws no number
abbrev pub IsUndrawn : Step → Type 0
IsUndrawn (Draw n) = ⊥
IsUndrawn s = Unit {0}

foreseen_is_found : (v : View) (s : Step) → IsForeseen v s → FoundAlone v s
foreseen_is_found v (Load w found) foreseen = λ alone. foreseen.1
foreseen_is_found v s foreseen = foreseen

undrawn_owes : (v : View) (s : Step) → IsUndrawn s → DrawsEnded v s
undrawn_owes v (Draw n) is = absurd is
undrawn_owes v s is = tt

abbrev AllUndrawn : List Step → Type 0
AllUndrawn steps = Every IsUndrawn (λ w x. tt) (λ line. tt) tt steps

ready_leads : (v : View) (steps : List Step) → Ready v steps → AllUndrawn steps → Leads v steps (after_all v steps)
unfolding Leads Ready after_all
ready_leads v [] ready undrawn = refl
ready_leads v (s ∷ steps) ready undrawn = (ready.0, foreseen_is_found v s ready.1, undrawn_owes v s undrawn.0, ready_leads (after v s) steps ready.2 undrawn.1)

pub fills_lead : (v : View) (line lines kind size : ℕ) → Ready v (fills line lines kind size v) → Leads v (fills line lines kind size v) (after_all v (fills line lines kind size v))
fills_lead v line lines kind size ready = ready_leads v (fills line lines kind size v) ready (are_fills IsUndrawn (λ w x. tt) (λ line. tt) tt line lines kind size v)

pub run_leads : (v : View) (lanes page lines : ℕ) → Ready v (makes_run lanes page lines v) → Leads v (makes_run lanes page lines v) (after_all v (makes_run lanes page lines v))
run_leads v lanes page lines ready = ready_leads v (makes_run lanes page lines v) ready (are_makes_run IsUndrawn (λ w x. tt) (λ line. tt) tt (λ at bits. tt) lanes page lines v)

search_owes : (v : View) (s : Step) → is_search s ≡ true → DrawsEnded v s
search_owes v (Draw n) is = absurd (false≢true is)
search_owes v s is = tt

pub search_leads : (v w : View) (steps : List Step) → Searches v steps w → Leads v steps w
unfolding Leads Searches
search_leads v w [] searches = searches
search_leads v w (s ∷ steps) searches = (searches.1, searches.3, search_owes v s searches.0, search_leads (after v s) w steps searches.4)

-- ---- what is known stays so

-- the step stores, flushes or drains
abbrev pub IsWriting : Step → Type 0
IsWriting (Store w x) = Unit {0}
IsWriting (Flush line) = Unit {0}
IsWriting Drain = Unit {0}
IsWriting s = ⊥

learned : (b : Bool) (w : ℕ) (known : List ℕ) (i : ℕ) → Contains known i → Contains (cond b (w ∷ known) known) i
learned true w known i there = Contains-append_right (w ∷ []) known i there
learned false w known i there = there

remembers_one : (v : View) (s : Step) (i : ℕ) → IsWriting s → Contains v.known i → Contains (after v s).known i
remembers_one v (Store w x) i is there = learned (is_held v w) w v.known i there
remembers_one v (Flush line) i is there = there
remembers_one v Drain i is there = there
remembers_one v (Load w x) i is there = absurd is
remembers_one v (Or w bits found) i is there = absurd is
remembers_one v (And w bits found) i is there = absurd is
remembers_one v (TakeWrite line won) i is there = absurd is
remembers_one v (TakeRead line won) i is there = absurd is
remembers_one v (Raise line won) i is there = absurd is
remembers_one v (Give line) i is there = absurd is
remembers_one v (ZoneTry zone won) i is there = absurd is
remembers_one v (ZoneGive zone) i is there = absurd is
remembers_one v (Occupied at found) i is there = absurd is
remembers_one v (Occupy at bits won) i is there = absurd is
remembers_one v (Vacate at bits) i is there = absurd is
remembers_one v (Draw n) i is there = absurd is
remembers_one v (NumberSeen n) i is there = absurd is
remembers_one v (StopSeen set) i is there = absurd is
remembers_one v SetStop i is there = absurd is
remembers_one v (Tell operation reply) i is there = absurd is

abbrev AllWriting : List Step → Type 0
AllWriting steps = Every IsWriting (λ w x. tt) (λ line. tt) tt steps

pub remembers_all : (v : View) (steps : List Step) (i : ℕ) → AllWriting steps → Contains v.known i → Contains (after_all v steps).known i
unfolding after_all
remembers_all v [] i writing there = there
remembers_all v (s ∷ steps) i writing there = remembers_all (after v s) steps i writing.1 (remembers_one v s i writing.0 there)

pub persistent_remembers : (v : View) (w x i : ℕ) → Contains v.known i → Contains (after_all v (stores_persistent w x v)).known i
persistent_remembers v w x i there = remembers_all v (stores_persistent w x v) i (are_persistent IsWriting (λ w x. tt) (λ line. tt) tt w x v) there
