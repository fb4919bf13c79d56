-- Loads of known words, stores, flushes and drains leave a view that of the same call.
use Rattle.std.proofs.Common.{◌≡◌, ℕ, ⊎_elim, Bool, true, false, cond, eqb, Contains, List, [], ◌∷◌, ◌++◌, map, set, slice_index, refl, sym, ap, ◌∙◌, subst, arith, length-set}
use Rattle.std.specs.List.{list_any}
use Rattle.std.proofs.lemmas.Bool.{cond-false, or_cases, or_left, or_right}
use Rattle.std.proofs.lemmas.List.{set-get_or}
use Rattle.std.proofs.lemmas.List.Elements.{Contains-append_left, Contains-append_right}
use Rattle.solo_view.proofs.SameLane.{same_lane, same_lane-then}
use Rattle.solo_view.specs.declared.change.Change.{Change}
use Rattle.solo_view.specs.Area.{is_in_area}
use Rattle.solo_view.specs.Held.{is_held, is_known}
use Rattle.solo_view.specs.Log.{Log}
use Rattle.solo_view.specs.Steps.Step.{Load}
use Rattle.solo_view.specs.View.{View, Lock}
use Rattle.solo_view.specs.Views.{after, changed, with_block}
use Rattle.solo_undo.specs.Working.{TellsNoBlock, IsSameCall, IsSettled, log_settled}

pub same_call : (v : View) → IsSameCall v v
same_call v = record {
  lane = same_lane v;
  locks = refl;
  zone_locks = refl;
  reserved = refl;
  freed = refl;
  call = refl;
  number = refl;
  chunks = refl;
  entries = refl;
  actions = refl;
  known = λ u e. e;
  remembers = λ u there. there;
  seen = λ s there. there;
}

pub same_call-then : (u v w : View) → IsSameCall u v → IsSameCall v w → IsSameCall u w
same_call-then u v w first second = record {
  lane = same_lane-then u v w first.lane second.lane;
  locks = second.locks ∙ first.locks;
  zone_locks = second.zone_locks ∙ first.zone_locks;
  reserved = second.reserved ∙ first.reserved;
  freed = second.freed ∙ first.freed;
  call = second.call ∙ first.call;
  number = second.number ∙ first.number;
  chunks = second.chunks ∙ first.chunks;
  entries = second.entries ∙ first.entries;
  actions = second.actions ∙ first.actions;
  known = λ u e. second.known u (first.known u e);
  remembers = λ u there. second.remembers u (first.remembers u there);
  seen = λ s there. second.seen s (first.seen s there);
}

-- a view that has only other changes, counts and log
abbrev pub coursed : View → List Change → ℕ → Log → View
coursed v changes calls log = record v { changes = changes; calls = calls; log = log }

pub same_coursed : (v : View) (changes : List Change) (calls : ℕ) (log : Log) → IsSameCall v (coursed v changes calls log)
same_coursed v changes calls log = record {
  lane = record { lanes = refl; zones = refl; pool = refl; lane = refl; stop = refl; table = refl; size = refl };
  locks = refl;
  zone_locks = refl;
  reserved = refl;
  freed = refl;
  call = refl;
  number = refl;
  chunks = refl;
  entries = refl;
  actions = refl;
  known = λ u e. e;
  remembers = λ u there. there;
  seen = λ s there. there;
}

-- what was known is, where the list of known words grows
pub still_known : (v : View) (known : List ℕ) (u : ℕ) → (list_any (λ other. eqb other u) v.known ≡ true → list_any (λ other. eqb other u) known ≡ true) → is_known v u ≡ true → is_known (record v { known = known }) u ≡ true
still_known v known u more e =
    ⊎_elim (λ (here : is_in_area v.lane u ≡ true). or_left (is_in_area v.lane u) (list_any (λ other. eqb other u) known) here)
    (λ (there : list_any (λ other. eqb other u) v.known ≡ true). or_right (is_in_area v.lane u) (list_any (λ other. eqb other u) known) (more there))
    (or_cases (is_in_area v.lane u) (list_any (λ other. eqb other u) v.known) e)

-- of what a lane knew it knows all still, where it holds the word and where not
listed_more : (v : View) (w u : ℕ) (b : Bool) → list_any (λ other. eqb other u) v.known ≡ true → list_any (λ other. eqb other u) (cond b (w ∷ v.known) v.known) ≡ true
listed_more v w u true e = or_right (eqb w u) (list_any (λ other. eqb other u) v.known) e
listed_more v w u false e = e

contains_more : (v : View) (w u : ℕ) (b : Bool) → Contains v.known u → Contains (cond b (w ∷ v.known) v.known) u
contains_more v w u true there = Contains-append_right (w ∷ []) v.known u there
contains_more v w u false there = there

-- the view after a load of a word that it has so: the word may be known by now, and what was told is seen
abbrev pub looked : View → ℕ → View
looked v w = record v { known = cond (is_held v w) (w ∷ v.known) v.known; seen = v.seen ++ Load w (slice_index v.words w) ∷ [] }

pub same_locks : (f : Lock → Lock) (locks : List Lock) → ((l : Lock) → Contains locks l → f l ≡ l) → map f locks ≡ locks
same_locks f [] same = refl
same_locks f (l ∷ locks) same =
    ap (λ (m : Lock). m ∷ map f locks) (same l (0, omega arith, refl)) ∙ ap (λ (ms : List Lock). l ∷ ms) (same_locks f locks (λ m there. same m (Contains-append_right (l ∷ []) locks m there)))

pub looks_so : (v : View) (w : ℕ) → TellsNoBlock v w → after v (Load w (slice_index v.words w)) ≡ looked v w
looks_so v w quiet =
    let words : set v.words w (slice_index v.words w) ≡ v.words = set-get_or v.words w 0 in
    ap (λ ws. record (looked v w) { words = ws; locks = map (with_block v.lanes ws w) v.locks }) words
    ∙ ap (λ locks. record (looked v w) { locks = locks }) (same_locks (with_block v.lanes v.words w) v.locks (λ l there. cond-false _ _ l (quiet l there)))

pub same_looked : (v : View) (w : ℕ) → IsSameCall v (looked v w)
same_looked v w = record {
  lane = record { lanes = refl; zones = refl; pool = refl; lane = refl; stop = refl; table = refl; size = refl };
  locks = refl;
  zone_locks = refl;
  reserved = refl;
  freed = refl;
  call = refl;
  number = refl;
  chunks = refl;
  entries = refl;
  actions = refl;
  known = λ u. still_known v (cond (is_held v w) (w ∷ v.known) v.known) u (listed_more v w u (is_held v w));
  remembers = λ u. contains_more v w u (is_held v w);
  seen = λ s there. Contains-append_left v.seen (Load w (slice_index v.words w) ∷ []) s there;
}

pub same_changed : (v : View) (w x : ℕ) (c : Change) (log : Log) → IsSameCall v (changed v w x c log)
same_changed v w x c log = record {
  lane = record { lanes = refl; zones = refl; pool = refl; lane = refl; stop = refl; table = refl; size = length-set v.words w x };
  locks = refl;
  zone_locks = refl;
  reserved = refl;
  freed = refl;
  call = refl;
  number = refl;
  chunks = refl;
  entries = refl;
  actions = refl;
  known = λ u. still_known v (cond (is_held v w) (w ∷ v.known) v.known) u (listed_more v w u (is_held v w));
  remembers = λ u. contains_more v w u (is_held v w);
  seen = λ s there. there;
}

pub same_settled : (v w : View) → IsSettled v w → IsSameCall v w
same_settled v w e = subst (IsSameCall v) (sym e) (same_coursed v [] w.calls (log_settled v.changes v))
