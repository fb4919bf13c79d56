-- What an operation of a script is to its lane: where it stands, which levels it opens and closes, and which letter it binds.
use Rattle.std.specs.Prelude.{ℕ, Bool, true, false, Option, Some, None, List, [], ◌∷◌, map, option_to_list}
use Rattle.pm_script.specs.declared.script.Place.{Place}
use Rattle.pm_script.specs.declared.script.Place.TheVariants.{Either, Inside, Outside}
use Rattle.pm_script.specs.declared.script.ScriptId.{ScriptId}
use Rattle.pm_script.specs.declared.script.ScriptOp.{ScriptOp}
use Rattle.pm_script.specs.declared.script.ScriptOp.TheVariants as op
use Rattle.pm_script.specs.declared.script.ScriptWant.{ScriptWant}

-- where it stands: in a transaction and outside, in one alone, or outside alone
abbrev pub place_of : ScriptOp → Place
place_of (op.Begin wants) = Either
place_of (op.Reserve letter size kind) = Either
place_of (op.WriteReserved id off bytes) = Either
place_of (op.DeferFree id) = Either
place_of (op.Set id off value) = Either
place_of op.Publish = Either
place_of op.Cancel = Either
place_of (op.Lock want) = Inside
place_of (op.Add id off len) = Inside
place_of (op.Write id off bytes) = Inside
place_of (op.Read id off len) = Inside
place_of (op.Increment id off by) = Inside
place_of (op.Alloc letter size kind) = Inside
place_of (op.Free id) = Inside
place_of op.Commit = Inside
place_of (op.Abort errnum) = Inside
place_of (op.AllocTo letter dest size kind) = Outside
place_of (op.ReallocAt letter dest size kind) = Outside
place_of (op.FreeAt dest) = Outside
place_of (op.UsableSize id) = Outside
place_of (op.TypeNumber id) = Outside
place_of (op.Insert head at id) = Outside
place_of (op.InsertNew letter head at size kind) = Outside
place_of (op.Remove head id free) = Outside
place_of (op.MoveTo head new_head at id) = Outside
place_of (op.Members head) = Outside
place_of (op.Root size) = Outside
place_of op.RootSize = Outside

-- it may stand in a transaction
abbrev pub stands_inside : Place → Bool
stands_inside Outside = false
stands_inside place = true

-- it may stand outside
abbrev pub stands_outside : Place → Bool
stands_outside Inside = false
stands_outside place = true

-- it opens a level of a transaction
abbrev pub opens : ScriptOp → Bool
opens (op.Begin wants) = true
opens operation = false

-- it closes one
abbrev pub closes : ScriptOp → Bool
closes op.Commit = true
closes (op.Abort errnum) = true
closes operation = false

-- the letter that is to stand for the object that it gives
abbrev pub letter_bound : ScriptOp → Option ℕ
letter_bound (op.Alloc letter size kind) = Some letter
letter_bound (op.Reserve letter size kind) = Some letter
letter_bound (op.AllocTo letter dest size kind) = Some letter
letter_bound (op.ReallocAt letter dest size kind) = Some letter
letter_bound (op.InsertNew letter head at size kind) = Some letter
letter_bound operation = None

-- the ids that it has
abbrev pub ids_of : ScriptOp → List ScriptId
ids_of (op.Begin wants) = map (λ (want : ScriptWant). want.id) wants
ids_of (op.Reserve letter size kind) = []
ids_of (op.WriteReserved id off bytes) = id ∷ []
ids_of (op.DeferFree id) = id ∷ []
ids_of (op.Set id off value) = id ∷ []
ids_of op.Publish = []
ids_of op.Cancel = []
ids_of (op.Lock want) = want.id ∷ []
ids_of (op.Add id off len) = id ∷ []
ids_of (op.Write id off bytes) = id ∷ []
ids_of (op.Read id off len) = id ∷ []
ids_of (op.Increment id off by) = id ∷ []
ids_of (op.Alloc letter size kind) = []
ids_of (op.Free id) = id ∷ []
ids_of op.Commit = []
ids_of (op.Abort errnum) = []
ids_of (op.AllocTo letter dest size kind) = dest.id ∷ []
ids_of (op.ReallocAt letter dest size kind) = dest.id ∷ []
ids_of (op.FreeAt dest) = dest.id ∷ []
ids_of (op.UsableSize id) = id ∷ []
ids_of (op.TypeNumber id) = id ∷ []
ids_of (op.Insert head at id) = head ∷ id ∷ option_to_list at.dest
ids_of (op.InsertNew letter head at size kind) = head ∷ option_to_list at.dest
ids_of (op.Remove head id free) = head ∷ id ∷ []
ids_of (op.MoveTo head new_head at id) = head ∷ new_head ∷ id ∷ option_to_list at.dest
ids_of (op.Members head) = head ∷ []
ids_of (op.Root size) = []
ids_of op.RootSize = []
