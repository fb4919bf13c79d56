-- A line's lock is taken for a call that has begun, or not.
use Rattle.std.proofs.Common.{◌≡◌, ℕ, ◌/◌, ◌<◌, All, Bool, true, false, eqb, List, [], ◌∷◌, ◌++◌, map, length, None, refl, sym, ap, ◌∙◌, subst}
use Rattle.std.specs.List.{AllByRecursion, IsDistinct}
use Rattle.std.specs.Prelude.{nat_eq}
use Rattle.std.proofs.lemmas.Bool.{or_parts}
use Rattle.std.proofs.lemmas.List.{map-append}
use Rattle.std.proofs.lemmas.List.Elements.{All-nil, All-push, Contains-append_left}
use Rattle.solo_view.specs.Log.{Log}
use Rattle.solo_view.specs.Steps.{Step}
use Rattle.solo_view.specs.Steps.Step.{NumberSeen, TakeRead, TakeWrite}
use Rattle.solo_view.specs.View.{View, Lock}
use Rattle.solo_view.specs.Views.{after}
use Rattle.solo_world.specs.Lanes.{lock_of}
use Rattle.solo_world.specs.Lawful.{Allowed, IsEarly, is_holder}
use Rattle.solo_world.specs.declared.lane.Lane.{Lane}
use Rattle.solo_world.proofs.Shapes.{IsOfSamePool, shape_seen}
use Rattle.solo_lock.proofs.Undrained.{rest_kept}
use Rattle.solo_lock.specs.Begun.{HoldsLines, IsBegun}
use Rattle.solo_lock.specs.Locking.{IsFreeLine, takes}

abbrev line_of : Lock → ℕ
line_of l = l.line

-- a line that none of these locks is of may be added
apart_more : (other : ℕ) (locks : List Lock) (l : Lock) → AllByRecursion (λ y. nat_eq other y ≡ false) (map line_of locks) → nat_eq other l.line ≡ false → AllByRecursion (λ y. nat_eq other y ≡ false) (map line_of (locks ++ l ∷ []))
apart_more other [] l apart new = (new, tt)
apart_more other (k ∷ locks) l apart new = (apart.0, apart_more other locks l apart.1 new)

once_more : (locks : List Lock) (l : Lock) → IsDistinct nat_eq (map line_of locks) → is_holder locks l.line ≡ false → IsDistinct nat_eq (map line_of (locks ++ l ∷ []))
unfolding IsDistinct
once_more [] l once free = (tt, tt)
once_more (k ∷ locks) l once free =
    let parts = or_parts (eqb k.line l.line) (is_holder locks l.line) free in
    (apart_more k.line locks l once.0 parts.0, once_more locks l once.1 parts.1)

more_lines : (v : View) (l : Lock) → HoldsLines v → IsFreeLine v l.line → HoldsLines (record v { locks = v.locks ++ l ∷ [] })
more_lines v l lines free = record {
  inside = All-push (λ (l : Lock). l.line < length v.words / 8) v.locks l lines.inside free.inside;
  once = once_more v.locks l lines.once free.free;
}

-- no lock is held
pub no_lines : (v : View) → v.locks ≡ [] → HoldsLines v
unfolding IsDistinct
no_lines v none = record {
  inside = subst (All (λ (l : Lock). l.line < length v.words / 8)) (sym none) (All-nil (λ (l : Lock). l.line < length v.words / 8));
  once = subst (λ (locks : List Lock). IsDistinct nat_eq (map (λ (l : Lock). l.line) locks)) (sym none) tt;
}

-- a lock that was tried has no block yet
pub tried_unfound : (v : View) (line : ℕ) (write won : Bool) → All (λ (l : Lock). l.block ≡ None) v.locks → All (λ (l : Lock). l.block ≡ None) (after v (takes line write won)).locks
tried_unfound v line true true none = All-push (λ (l : Lock). l.block ≡ None) v.locks (record { line = line; write = true; block = None }) none refl
tried_unfound v line true false none = none
tried_unfound v line false true none = All-push (λ (l : Lock). l.block ≡ None) v.locks (record { line = line; write = false; block = None }) none refl
tried_unfound v line false false none = none

module _ {M : Type 0} (at : M → View → Type 0) (lane : Lane M) (v : View) (is : IsBegun at lane v) (line : ℕ) (free : IsFreeLine v line) where
  early : IsEarly v.log.phase
  early = subst (λ (log : Log). IsEarly log.phase) (sym is.log) tt

  pub may_take : (write won : Bool) → Allowed v (takes line write won)
  may_take true won = record { inside = free.inside; free = free.free; early = early }
  may_take false won = record { inside = free.inside; free = free.free; early = early }

  -- the view behind the try
  abbrev tried : List Step → List Lock → View
  tried seen locks = record v { locks = locks; seen = seen }

  begun_with : (new : Lane M) (s : Step) (locks : List Lock) → at new.memory (tried (v.seen ++ s ∷ []) locks) → map lock_of new.locks.items ≡ locks → new.records.items ≡ lane.records.items → new.entries ≡ lane.entries → new.drawn ≡ lane.drawn → new.last ≡ lane.last → IsOfSamePool lane new
      → new.error ≡ lane.error → new.stopped ≡ lane.stopped → HoldsLines (record v { locks = locks }) → IsBegun at new (tried (v.seen ++ s ∷ []) locks)
  begun_with new s locks there held records entries drawn last pool error stopped lines = record {
    seen = record { memory = there; locks = held; records = records ∙ is.seen.records; drawn = λ number some. is.seen.drawn number (sym drawn ∙ some); last = last ∙ is.seen.last; pool = is.seen.pool ∙ sym pool.pool; shape = shape_seen lane new v (tried (v.seen ++ s ∷ []) locks) pool (record { lanes = refl; zones = refl; pool = refl; lane = refl; stop = refl; table = refl; size = refl }) is.seen.shape };
    unharmed = error ∙ is.unharmed;
    unstopped = stopped ∙ is.unstopped;
    unlisted = ap (λ es. es.items) entries ∙ is.unlisted;
    log = is.log;
    undrawn = is.undrawn;
    undrained = rest_kept v (tried (v.seen ++ s ∷ []) locks) refl refl refl refl (λ alone. refl) is.undrained;
    untold = is.untold;
    area = (let a = is.area in record { lane = a.lane; few = a.few; inside = a.inside; below = a.below });
    may_come = (let m = is.may_come in record { found = m.found; seen = Contains-append_left v.seen (s ∷ []) (NumberSeen m.found) m.seen; below = m.below });
    lines = record { inside = lines.inside; once = lines.once };
  }

  pub not_taken : (memory : M) (write : Bool) → at memory (after v (takes line write false)) → IsBegun at (record lane { memory = memory }) (after v (takes line write false))
  not_taken memory true there = begun_with (record lane { memory = memory }) (TakeWrite line false) v.locks there is.seen.locks refl refl refl refl (record { pool = refl; shape = refl }) refl refl is.lines
  not_taken memory false there = begun_with (record lane { memory = memory }) (TakeRead line false) v.locks there is.seen.locks refl refl refl refl (record { pool = refl; shape = refl }) refl refl is.lines

  abbrev one_more : Bool → List Lock
  one_more write = v.locks ++ record { line = line; write = write; block = None } ∷ []

  held_more : (new : Lane M) (write : Bool) → new.locks.items ≡ lane.locks.items ++ record { line = line; write = write; block = None } ∷ [] → map lock_of new.locks.items ≡ one_more write
  held_more new write pushed =
      ap (map lock_of) pushed
      ∙ (map-append lock_of lane.locks.items (record { line = line; write = write; block = None } ∷ [])
      ∙ ap (λ (locks : List Lock). locks ++ record { line = line; write = write; block = None } ∷ []) is.seen.locks)

  pub is_taken : (new : Lane M) (write : Bool) → at new.memory (after v (takes line write true)) → new.locks.items ≡ lane.locks.items ++ record { line = line; write = write; block = None } ∷ [] → new.records.items ≡ lane.records.items → new.entries ≡ lane.entries
      → new.drawn ≡ lane.drawn → new.last ≡ lane.last → IsOfSamePool lane new → new.error ≡ lane.error → new.stopped ≡ lane.stopped → IsBegun at new (after v (takes line write true))
  is_taken new true there pushed records entries drawn last pool error stopped =
      begun_with new (TakeWrite line true) (one_more true) there (held_more new true pushed) records entries drawn last pool error stopped (more_lines v (record { line = line; write = true; block = None }) is.lines free)
  is_taken new false there pushed records entries drawn last pool error stopped =
      begun_with new (TakeRead line true) (one_more false) there (held_more new false pushed) records entries drawn last pool error stopped (more_lines v (record { line = line; write = false; block = None }) is.lines free)
