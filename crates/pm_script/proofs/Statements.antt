-- What the words of a line say: facts that hold row by row of the table of forms.
use Rattle.std.proofs.Common.{◌≡◌, ◌<◌, ◌&&◌, ℕ, Bool, true, false, cond, ltb, nat_eq, All, List, [], ◌∷◌, map, drop, codes, Option, None, Some, is_some, option_to_list, refl, subst}
use Rattle.std.specs.List.{cons_option, filter_map, starts_with}
use Rattle.std.specs.Option.{option_and_then, option_map, option_map_or}
use Rattle.std.specs.Str.{bytes_eq}
use Rattle.std.proofs.lemmas.Bool.{ltb-true}
use Rattle.std.proofs.lemmas.List.Elements.{All-nil, All-cons}
use Rattle.pm_script.specs.Contexts.{Context}
use Rattle.pm_script.specs.Grammar.{Form, Kind, Says, Value, form, keyword_of, place_asked, place_said, said_by, said_in, statement_of, value_of}
use Rattle.pm_script.specs.Grammar.Form.{Takes, TakesWants}
use Rattle.pm_script.specs.Numbers.{number_of}
use Rattle.pm_script.specs.Operands.{id_of, want_of, wanted}
use Rattle.pm_script.specs.Operations.{ids_of}
use Rattle.pm_script.specs.Reading.{HasLane, form_why}
use Rattle.pm_script.specs.Scripts.{said}
use Rattle.pm_script.specs.declared.either.EitherWord.TheVariants as either
use Rattle.pm_script.specs.declared.fault.Why.TheVariants.{Number, LaneNumber}
use Rattle.pm_script.specs.declared.inside.InsideWord.TheVariants as inside
use Rattle.pm_script.specs.declared.outside.OutsideWord.TheVariants as outside
use Rattle.pm_script.specs.declared.script.Place.{Place}
use Rattle.pm_script.specs.declared.script.ScriptId.{ScriptId}
use Rattle.pm_script.specs.declared.script.ScriptWant.{ScriptWant}
use Rattle.pm_script.specs.declared.statement.Keyword.{Keyword}
use Rattle.pm_script.specs.declared.statement.Keyword.TheVariants as keyword
use Rattle.pm_script.specs.declared.statement.Statement.{Statement}
use Rattle.pm_script.specs.declared.statement.Statement.TheVariants as says

-- a step that gave a value
found : {A B : Type 0} (from : Option A) (next : A → Option B) (b : B) → option_and_then next from ≡ Some b → (a : A) × (next a ≡ Some b) × (from ≡ Some a)
found (Some a) next b is = (a, is, refl)
found None next b is = cc

same_some : {A : Type 0} {a b : A} → Some a ≡ Some b → a ≡ b
same_some e = cc

-- ---- row by row

-- P holds of what is said with values of which Q holds, each of its kind
abbrev AllSay : (Statement → Type 0) → ((k : Kind) → Value k → Type 0) → (kinds : List Kind) → Says kinds → Type 0
AllSay P Q [] says = P says
AllSay P Q (k ∷ kinds) says = (value : Value k) → Q k value → AllSay P Q kinds (says value)

-- P holds of what a form says with values of which Q holds, or with locks of which R does
abbrev FormSays : (Statement → Type 0) → ((k : Kind) → Value k → Type 0) → (List ScriptWant → Type 0) → Form → Type 0
FormSays P Q R (Takes kinds says) = AllSay P Q kinds says
FormSays P Q R (TakesWants says) = (wants : List ScriptWant) → R wants → P (says wants)

module _ (context : Context) (P : Statement → Type 0) (Q : (k : Kind) → Value k → Type 0) (R : List ScriptWant → Type 0)
    (holds : (k : Kind) (word : List ℕ) (value : Value k) → value_of context k word ≡ Some value → Q k value)
    (locks : (words : List (List ℕ)) → R (filter_map (want_of context) words)) where
  said_has : (kinds : List Kind) (says : Says kinds) → AllSay P Q kinds says → (operands : List (List ℕ)) (statement : Statement) → said_by context kinds says operands ≡ Some statement → P statement
  said_has [] says all [] statement is = subst P (same_some is) all
  said_has [] says all (word ∷ operands) statement is = cc
  said_has (k ∷ kinds) says all [] statement is = cc
  said_has (k ∷ kinds) says all (word ∷ operands) statement is =
      let one = found (value_of context k word) (λ value. said_by context kinds (says value) operands) statement is in
      said_has kinds (says one.0) (all one.0 (holds k word one.0 one.2)) operands statement one.1

  -- so P holds of what operands say in the form
  form_has : (row : Form) → FormSays P Q R row → (operands : List (List ℕ)) (statement : Statement) → said_in context row operands ≡ Some statement → P statement
  form_has (Takes kinds says) all operands statement is = said_has kinds says all operands statement is
  form_has (TakesWants says) all operands statement is = subst P (same_some is) (all (filter_map (want_of context) operands) (locks operands))

-- ---- where a statement stands

abbrev Stands : Option Place → Statement → Type 0
Stands place statement = place_said statement ≡ place

abbrev AnyValue : (k : Kind) → Value k → Type 0
AnyValue k value = Unit {0}

abbrev AnyWants : List ScriptWant → Type 0
AnyWants wants = Unit {0}

place_rows : (word : Keyword) → FormSays (Stands (place_asked word)) AnyValue AnyWants (form word)
place_rows keyword.Lane = λ lane a. refl
place_rows (keyword.Either either.Begin) = λ wants all. refl
place_rows (keyword.Either either.Publish) = refl
place_rows (keyword.Either either.Reserve) = λ letter a size b kind c. refl
place_rows (keyword.Either either.Put) = λ id a off b bytes c. refl
place_rows (keyword.Either either.Defer) = λ id a. refl
place_rows (keyword.Either either.Set) = λ id a off b value c. refl
place_rows (keyword.Either either.Cancel) = refl
place_rows (keyword.Inside inside.Lock) = λ id a. refl
place_rows (keyword.Inside inside.LockRead) = λ id a. refl
place_rows (keyword.Inside inside.Add) = λ id a off b len c. refl
place_rows (keyword.Inside inside.Write) = λ id a off b bytes c. refl
place_rows (keyword.Inside inside.Read) = λ id a off b len c. refl
place_rows (keyword.Inside inside.Inc) = λ id a off b by c. refl
place_rows (keyword.Inside inside.Alloc) = λ letter a size b kind c. refl
place_rows (keyword.Inside inside.Free) = λ id a. refl
place_rows (keyword.Inside inside.Commit) = refl
place_rows (keyword.Inside inside.Abort) = λ errnum a. refl
place_rows (keyword.Outside outside.AllocTo) = λ letter a id b off c size d kind e. refl
place_rows (keyword.Outside outside.ReallocAt) = λ letter a id b off c size d kind e. refl
place_rows (keyword.Outside outside.FreeAt) = λ id a off b. refl
place_rows (keyword.Outside outside.Usable) = λ id a. refl
place_rows (keyword.Outside outside.Type) = λ id a. refl
place_rows (keyword.Outside outside.Insert) = λ head a before b dest c id d. refl
place_rows (keyword.Outside outside.InsertNew) = λ letter a head b before c dest d size e kind f. refl
place_rows (keyword.Outside outside.Remove) = λ head a id b. refl
place_rows (keyword.Outside outside.RemoveFree) = λ head a id b. refl
place_rows (keyword.Outside outside.Move) = λ head a new_head b before c dest d id e. refl
place_rows (keyword.Outside outside.Members) = λ head a. refl
place_rows (keyword.Outside outside.Root) = λ size a. refl
place_rows (keyword.Outside outside.RootSize) = refl

-- a statement stands where its first word does
pub place_is : (context : Context) (word : Keyword) (operands : List (List ℕ)) (statement : Statement) → statement_of context word operands ≡ Some statement → place_said statement ≡ place_asked word
place_is context word operands statement is =
    form_has context (Stands (place_asked word)) AnyValue AnyWants (λ k text value e. tt) (λ words. tt) (form word) (place_rows word) operands statement is

-- ---- lanes

both_passed : (b : Bool) → cond (b && true) None (Some LaneNumber) ≡ None → b ≡ true
both_passed true fine = refl
both_passed false fine = cc

low_lane : (number : Option ℕ) (lane : ℕ) → option_and_then (λ n. Some (says.Lane n)) number ≡ Some (says.Lane lane)
    → cond (is_some number && true) (cond (option_map_or (λ n. ltb n 32) number false && true) None (Some LaneNumber)) (Some Number) ≡ None → lane < 32
low_lane None lane is fine = cc
low_lane (Some n) lane is fine = let same : n ≡ lane = let e = same_some is in cc in subst (λ m. m < 32) same (ltb-true n 32 (both_passed (ltb n 32) fine))

-- a lane that a good line names is one of the 32
pub has_lane : (context : Context) (word : Keyword) (operands : List (List ℕ)) (statement : Statement) → statement_of context word operands ≡ Some statement → form_why context word operands ≡ None → HasLane statement
has_lane context word operands (says.Operation operation) is fine = tt
has_lane context keyword.Lane [] (says.Lane lane) is fine = cc
has_lane context keyword.Lane (text ∷ []) (says.Lane lane) is fine = low_lane (number_of text) lane is fine
has_lane context keyword.Lane (text ∷ x ∷ more) (says.Lane lane) is fine = let one = found (number_of text) (λ n. said_by context [] (says.Lane n) (x ∷ more)) (says.Lane lane) is in let bad = one.1 in cc
has_lane context (keyword.Either word) operands (says.Lane lane) is fine = let e = place_is context (keyword.Either word) operands (says.Lane lane) is in cc
has_lane context (keyword.Inside word) operands (says.Lane lane) is fine = let e = place_is context (keyword.Inside word) operands (says.Lane lane) is in cc
has_lane context (keyword.Outside word) operands (says.Lane lane) is fine = let e = place_is context (keyword.Outside word) operands (says.Lane lane) is in cc

-- ---- the ids of a statement

abbrev pub ids_said : Statement → List ScriptId
ids_said (says.Lane lane) = []
ids_said (says.Operation operation) = ids_of operation

-- P holds of the ids of a value
abbrev Named : (ScriptId → Type 0) → (k : Kind) → Value k → Type 0
Named P Kind.Lane value = Unit {0}
Named P Kind.Letter value = Unit {0}
Named P Kind.Id id = P id
Named P Kind.Dest dest = All P (option_to_list dest)
Named P Kind.Side value = Unit {0}
Named P Kind.Number value = Unit {0}
Named P Kind.Length value = Unit {0}
Named P Kind.Errnum value = Unit {0}
Named P Kind.Bytes value = Unit {0}

module _ (context : Context) (P : ScriptId → Type 0) (named : (word : List ℕ) (id : ScriptId) → id_of context word ≡ Some id → P id) where
  want_named : (write : Bool) (word : List ℕ) (id : Option ScriptId) (want : ScriptWant) → id_of context word ≡ id → option_map (wanted write) id ≡ Some want → P want.id
  want_named write word None want is wants = cc
  want_named write word (Some id) want is wants = subst (λ (w : ScriptWant). P w.id) (same_some wants) (named word id is)

  word_named : (b : Bool) (word : List ℕ) (want : ScriptWant) → cond b (option_map (wanted false) (id_of context (drop 2 word))) (option_map (wanted true) (id_of context word)) ≡ Some want → P want.id
  word_named true word want is = want_named false (drop 2 word) (id_of context (drop 2 word)) want refl is
  word_named false word want is = want_named true word (id_of context word) want refl is

  want_first : (want : Option ScriptWant) (others : List ScriptWant) → ((w : ScriptWant) → want ≡ Some w → P w.id) → All P (map (λ (w : ScriptWant). w.id) others) → All P (map (λ (w : ScriptWant). w.id) (cons_option want others))
  want_first None others is all = all
  want_first (Some want) others is all = All-cons P want.id (map (λ (w : ScriptWant). w.id) others) (is want refl) all

  wants_named : (wants : List (List ℕ)) → All P (map (λ (w : ScriptWant). w.id) (filter_map (want_of context) wants))
  wants_named [] = All-nil P
  wants_named (word ∷ wants) = want_first (want_of context word) (filter_map (want_of context) wants) (λ want is. word_named (starts_with nat_eq word (codes "r:")) word want is) (wants_named wants)

  dest_found : (word : List ℕ) (id : Option ScriptId) (dest : Option ScriptId) → id_of context word ≡ id → option_map Some id ≡ Some dest → All P (option_to_list dest)
  dest_found word None dest is dests = cc
  dest_found word (Some id) dest is dests = subst (λ (d : Option ScriptId). All P (option_to_list d)) (same_some dests) (All-cons P id [] (named word id is) (All-nil P))

  dest_named : (null : Bool) (word : List ℕ) (dest : Option ScriptId) → cond null (Some None) (option_map Some (id_of context word)) ≡ Some dest → All P (option_to_list dest)
  dest_named true word dest is = subst (λ (d : Option ScriptId). All P (option_to_list d)) (same_some is) (All-nil P)
  dest_named false word dest is = dest_found word (id_of context word) dest refl is

  value_named : (k : Kind) (word : List ℕ) (value : Value k) → value_of context k word ≡ Some value → Named P k value
  value_named Kind.Lane word value is = tt
  value_named Kind.Letter word value is = tt
  value_named Kind.Id word id is = named word id is
  value_named Kind.Dest word dest is = dest_named (bytes_eq word (codes "null")) word dest is
  value_named Kind.Side word value is = tt
  value_named Kind.Number word value is = tt
  value_named Kind.Length word value is = tt
  value_named Kind.Errnum word value is = tt
  value_named Kind.Bytes word value is = tt

  ids_rows : (word : Keyword) → FormSays (λ statement. All P (ids_said statement)) (Named P) (λ wants. All P (map (λ (w : ScriptWant). w.id) wants)) (form word)
  ids_rows keyword.Lane = λ lane a. All-nil P
  ids_rows (keyword.Either either.Begin) = λ wants all. all
  ids_rows (keyword.Either either.Publish) = All-nil P
  ids_rows (keyword.Either either.Reserve) = λ letter a size b kind c. All-nil P
  ids_rows (keyword.Either either.Put) = λ id a off b bytes c. All-cons P id [] a (All-nil P)
  ids_rows (keyword.Either either.Defer) = λ id a. All-cons P id [] a (All-nil P)
  ids_rows (keyword.Either either.Set) = λ id a off b value c. All-cons P id [] a (All-nil P)
  ids_rows (keyword.Either either.Cancel) = All-nil P
  ids_rows (keyword.Inside inside.Lock) = λ id a. All-cons P id [] a (All-nil P)
  ids_rows (keyword.Inside inside.LockRead) = λ id a. All-cons P id [] a (All-nil P)
  ids_rows (keyword.Inside inside.Add) = λ id a off b len c. All-cons P id [] a (All-nil P)
  ids_rows (keyword.Inside inside.Write) = λ id a off b bytes c. All-cons P id [] a (All-nil P)
  ids_rows (keyword.Inside inside.Read) = λ id a off b len c. All-cons P id [] a (All-nil P)
  ids_rows (keyword.Inside inside.Inc) = λ id a off b by c. All-cons P id [] a (All-nil P)
  ids_rows (keyword.Inside inside.Alloc) = λ letter a size b kind c. All-nil P
  ids_rows (keyword.Inside inside.Free) = λ id a. All-cons P id [] a (All-nil P)
  ids_rows (keyword.Inside inside.Commit) = All-nil P
  ids_rows (keyword.Inside inside.Abort) = λ errnum a. All-nil P
  ids_rows (keyword.Outside outside.AllocTo) = λ letter a id b off c size d kind e. All-cons P id [] b (All-nil P)
  ids_rows (keyword.Outside outside.ReallocAt) = λ letter a id b off c size d kind e. All-cons P id [] b (All-nil P)
  ids_rows (keyword.Outside outside.FreeAt) = λ id a off b. All-cons P id [] a (All-nil P)
  ids_rows (keyword.Outside outside.Usable) = λ id a. All-cons P id [] a (All-nil P)
  ids_rows (keyword.Outside outside.Type) = λ id a. All-cons P id [] a (All-nil P)
  ids_rows (keyword.Outside outside.Insert) = λ head a before b dest c id d. All-cons P head (id ∷ option_to_list dest) a (All-cons P id (option_to_list dest) d c)
  ids_rows (keyword.Outside outside.InsertNew) = λ letter a head b before c dest d size e kind f. All-cons P head (option_to_list dest) b d
  ids_rows (keyword.Outside outside.Remove) = λ head a id b. All-cons P head (id ∷ []) a (All-cons P id [] b (All-nil P))
  ids_rows (keyword.Outside outside.RemoveFree) = λ head a id b. All-cons P head (id ∷ []) a (All-cons P id [] b (All-nil P))
  ids_rows (keyword.Outside outside.Move) = λ head a new_head b before c dest d id e. All-cons P head (new_head ∷ id ∷ option_to_list dest) a (All-cons P new_head (id ∷ option_to_list dest) b (All-cons P id (option_to_list dest) e d))
  ids_rows (keyword.Outside outside.Members) = λ head a. All-cons P head [] a (All-nil P)
  ids_rows (keyword.Outside outside.Root) = λ size a. All-nil P
  ids_rows (keyword.Outside outside.RootSize) = All-nil P

  -- what holds of each id that a word names holds of those of a statement
  statement_ids : (word : Keyword) (operands : List (List ℕ)) (statement : Statement) → statement_of context word operands ≡ Some statement → All P (ids_said statement)
  statement_ids word operands statement is =
      form_has context (λ statement. All P (ids_said statement)) (Named P) (λ wants. All P (map (λ (w : ScriptWant). w.id) wants)) value_named wants_named (form word) (ids_rows word) operands statement is

  keyword_ids : (word : Option Keyword) (operands : List (List ℕ)) (statement : Statement) → option_and_then (λ k. statement_of context k operands) word ≡ Some statement → All P (ids_said statement)
  keyword_ids None operands statement is = cc
  keyword_ids (Some word) operands statement is = statement_ids word operands statement is

  -- those of a line's words
  pub words_ids : (line : List (List ℕ)) (statement : Statement) → said context line ≡ Some statement → All P (ids_said statement)
  words_ids [] statement is = cc
  words_ids (word ∷ operands) statement is = keyword_ids (keyword_of word) operands statement is
