-- The grammar of a script's lines: the first words, each with where it stands, its operands and what it says.
use Rattle.std.specs.Prelude.{ℕ, ◌==◌, ◌&&◌, Bool, true, false, if◌then◌else◌, List, [], ◌∷◌, length, codes, option_and_then, option_map, Option, Some, None}
use Rattle.std.specs.List.{find, filter_map, list_all}
use Rattle.std.specs.Option.{option_or}
use Rattle.std.specs.Str.{bytes_eq}
use Rattle.pm_script.specs.Contexts.{Context}
use Rattle.pm_script.specs.Numbers.{number_of}
use Rattle.pm_script.specs.Operands.{bytes_of, dest_of, errnum_of, id_of, letter_of, side_of, size_of, want_of, wanted, is_dest, is_errnum, is_hex, is_id, is_lane, is_letter, is_number, is_side, is_size, is_want}
use Rattle.pm_script.specs.Operations.{place_of}
use Rattle.pm_script.specs.declared.either.EitherWord.{EitherWord}
use Rattle.pm_script.specs.declared.either.EitherWord.TheVariants as either
use Rattle.pm_script.specs.declared.fault.Why.{Why}
use Rattle.pm_script.specs.declared.fault.Why.TheVariants as why
use Rattle.pm_script.specs.declared.inside.InsideWord.{InsideWord}
use Rattle.pm_script.specs.declared.inside.InsideWord.TheVariants as inside
use Rattle.pm_script.specs.declared.outside.OutsideWord.{OutsideWord}
use Rattle.pm_script.specs.declared.outside.OutsideWord.TheVariants as outside
use Rattle.pm_script.specs.declared.script.Place.{Place}
use Rattle.pm_script.specs.declared.script.Place.TheVariants as place
use Rattle.pm_script.specs.declared.script.ScriptAt.{ScriptAt}
use Rattle.pm_script.specs.declared.script.ScriptDest.{ScriptDest}
use Rattle.pm_script.specs.declared.script.ScriptId.{ScriptId}
use Rattle.pm_script.specs.declared.script.ScriptOp.TheVariants as op
use Rattle.pm_script.specs.declared.script.ScriptWant.{ScriptWant}
use Rattle.pm_script.specs.declared.statement.Keyword.{Keyword}
use Rattle.pm_script.specs.declared.statement.Keyword.TheVariants as keyword
use Rattle.pm_script.specs.declared.statement.Statement.{Statement}
use Rattle.pm_script.specs.declared.statement.Statement.TheVariants as says

-- ---- first words

-- the words that stand in a transaction and outside
abbrev pub either_words : List (List ℕ × EitherWord)
either_words =
    (codes "begin", either.Begin)
    ∷ (codes "publish", either.Publish)
    ∷ (codes "reserve", either.Reserve)
    ∷ (codes "put", either.Put)
    ∷ (codes "defer", either.Defer)
    ∷ (codes "set", either.Set)
    ∷ (codes "cancel", either.Cancel)
    ∷ []

-- those that stand in one alone
abbrev pub inside_words : List (List ℕ × InsideWord)
inside_words =
    (codes "lock", inside.Lock)
    ∷ (codes "lockr", inside.LockRead)
    ∷ (codes "add", inside.Add)
    ∷ (codes "write", inside.Write)
    ∷ (codes "read", inside.Read)
    ∷ (codes "inc", inside.Inc)
    ∷ (codes "alloc", inside.Alloc)
    ∷ (codes "free", inside.Free)
    ∷ (codes "commit", inside.Commit)
    ∷ (codes "abort", inside.Abort)
    ∷ []

-- those that stand outside alone
abbrev pub outside_words : List (List ℕ × OutsideWord)
outside_words =
    (codes "alloc_to", outside.AllocTo)
    ∷ (codes "realloc_at", outside.ReallocAt)
    ∷ (codes "free_at", outside.FreeAt)
    ∷ (codes "usable", outside.Usable)
    ∷ (codes "type", outside.Type)
    ∷ (codes "insert", outside.Insert)
    ∷ (codes "insert_new", outside.InsertNew)
    ∷ (codes "remove", outside.Remove)
    ∷ (codes "remove_free", outside.RemoveFree)
    ∷ (codes "move", outside.Move)
    ∷ (codes "members", outside.Members)
    ∷ (codes "root", outside.Root)
    ∷ (codes "root_size", outside.RootSize)
    ∷ []

-- which of some words this is
abbrev pub word_in : {W : Type 0} → List (List ℕ × W) → List ℕ → Option W
word_in {W} words word = option_map (λ known. known.1) (find (λ (known : List ℕ × W). bytes_eq word known.0) words)

-- what a first word asks for
abbrev pub keyword_of : List ℕ → Option Keyword
keyword_of word =
    if bytes_eq word (codes "lane") then Some keyword.Lane
    else option_or (option_map keyword.Either (word_in either_words word)) (option_or (option_map keyword.Inside (word_in inside_words word)) (option_map keyword.Outside (word_in outside_words word)))

-- where it stands, and so does a statement; nothing for `lane`, which stands anywhere
abbrev pub place_asked : Keyword → Option Place
place_asked keyword.Lane = None
place_asked (keyword.Either word) = Some place.Either
place_asked (keyword.Inside word) = Some place.Inside
place_asked (keyword.Outside word) = Some place.Outside

abbrev pub place_said : Statement → Option Place
place_said (says.Lane lane) = None
place_said (says.Operation operation) = Some (place_of operation)

-- ---- operands

-- what a word behind the first one is to be
pub data Kind : Type 0 where
  -- the number of a lane
  Lane : Kind
  -- x: a letter
  Letter : Kind
  -- ID: an object
  Id : Kind
  -- DEST: an object or `null`
  Dest : Kind
  -- WHERE: `before` or `after`
  Side : Kind
  -- a number
  Number : Kind
  -- how many bytes are read: 1 to 4,096
  Length : Kind
  -- an error number: below 2 ^ 32
  Errnum : Kind
  -- HEX: 1 to 4,096 bytes
  Bytes : Kind

-- what such a word stands for
abbrev pub Value : Kind → Type 0
Value Lane = ℕ
Value Letter = ℕ
Value Id = ScriptId
Value Dest = Option ScriptId
Value Side = Bool
Value Number = ℕ
Value Length = ℕ
Value Errnum = ℕ
Value Bytes = List ℕ

-- in its place
abbrev pub value_of : Context → (kind : Kind) → List ℕ → Option (Value kind)
value_of context Lane word = number_of word
value_of context Letter word = letter_of word
value_of context Id word = id_of context word
value_of context Dest word = dest_of context word
value_of context Side word = side_of word
value_of context Number word = number_of word
value_of context Length word = size_of word
value_of context Errnum word = errnum_of word
value_of context Bytes word = bytes_of word

-- a statement, from a value of each kind
abbrev pub Says : List Kind → Type 0
Says [] = Statement
Says (kind ∷ kinds) = Value kind → Says kinds

-- ---- the table

-- what stands behind a first word, and what the line says
pub data Form : Type 0 where
  -- one word of each kind
  Takes : (kinds : List Kind) → Says kinds → Form
  -- any number of words `ID` or `r:ID`
  TakesWants : (List ScriptWant → Statement) → Form

abbrev put_at : ScriptId → ℕ → ScriptDest
put_at id off = record { id = id; off = off }

abbrev beside : Bool → Option ScriptId → ScriptAt
beside before dest = record { dest = dest; before = before }

abbrev pub form : Keyword → Form
form keyword.Lane = Takes (Lane ∷ []) (λ lane. says.Lane lane)
form (keyword.Either either.Begin) = TakesWants (λ wants. says.Operation (op.Begin wants))
form (keyword.Either either.Publish) = Takes [] (says.Operation op.Publish)
form (keyword.Either either.Reserve) = Takes (Letter ∷ Number ∷ Number ∷ []) (λ letter size kind. says.Operation (op.Reserve letter size kind))
form (keyword.Either either.Put) = Takes (Id ∷ Number ∷ Bytes ∷ []) (λ id off bytes. says.Operation (op.WriteReserved id off bytes))
form (keyword.Either either.Defer) = Takes (Id ∷ []) (λ id. says.Operation (op.DeferFree id))
form (keyword.Either either.Set) = Takes (Id ∷ Number ∷ Number ∷ []) (λ id off value. says.Operation (op.Set id off value))
form (keyword.Either either.Cancel) = Takes [] (says.Operation op.Cancel)
form (keyword.Inside inside.Lock) = Takes (Id ∷ []) (λ id. says.Operation (op.Lock (wanted true id)))
form (keyword.Inside inside.LockRead) = Takes (Id ∷ []) (λ id. says.Operation (op.Lock (wanted false id)))
form (keyword.Inside inside.Add) = Takes (Id ∷ Number ∷ Number ∷ []) (λ id off len. says.Operation (op.Add id off len))
form (keyword.Inside inside.Write) = Takes (Id ∷ Number ∷ Bytes ∷ []) (λ id off bytes. says.Operation (op.Write id off bytes))
form (keyword.Inside inside.Read) = Takes (Id ∷ Number ∷ Length ∷ []) (λ id off len. says.Operation (op.Read id off len))
form (keyword.Inside inside.Inc) = Takes (Id ∷ Number ∷ Number ∷ []) (λ id off by. says.Operation (op.Increment id off by))
form (keyword.Inside inside.Alloc) = Takes (Letter ∷ Number ∷ Number ∷ []) (λ letter size kind. says.Operation (op.Alloc letter size kind))
form (keyword.Inside inside.Free) = Takes (Id ∷ []) (λ id. says.Operation (op.Free id))
form (keyword.Inside inside.Commit) = Takes [] (says.Operation op.Commit)
form (keyword.Inside inside.Abort) = Takes (Errnum ∷ []) (λ errnum. says.Operation (op.Abort errnum))
form (keyword.Outside outside.AllocTo) = Takes (Letter ∷ Id ∷ Number ∷ Number ∷ Number ∷ []) (λ letter id off size kind. says.Operation (op.AllocTo letter (put_at id off) size kind))
form (keyword.Outside outside.ReallocAt) = Takes (Letter ∷ Id ∷ Number ∷ Number ∷ Number ∷ []) (λ letter id off size kind. says.Operation (op.ReallocAt letter (put_at id off) size kind))
form (keyword.Outside outside.FreeAt) = Takes (Id ∷ Number ∷ []) (λ id off. says.Operation (op.FreeAt (put_at id off)))
form (keyword.Outside outside.Usable) = Takes (Id ∷ []) (λ id. says.Operation (op.UsableSize id))
form (keyword.Outside outside.Type) = Takes (Id ∷ []) (λ id. says.Operation (op.TypeNumber id))
form (keyword.Outside outside.Insert) = Takes (Id ∷ Side ∷ Dest ∷ Id ∷ []) (λ head before dest id. says.Operation (op.Insert head (beside before dest) id))
form (keyword.Outside outside.InsertNew) = Takes (Letter ∷ Id ∷ Side ∷ Dest ∷ Number ∷ Number ∷ []) (λ letter head before dest size kind. says.Operation (op.InsertNew letter head (beside before dest) size kind))
form (keyword.Outside outside.Remove) = Takes (Id ∷ Id ∷ []) (λ head id. says.Operation (op.Remove head id false))
form (keyword.Outside outside.RemoveFree) = Takes (Id ∷ Id ∷ []) (λ head id. says.Operation (op.Remove head id true))
form (keyword.Outside outside.Move) = Takes (Id ∷ Id ∷ Side ∷ Dest ∷ Id ∷ []) (λ head new_head before dest id. says.Operation (op.MoveTo head new_head (beside before dest) id))
form (keyword.Outside outside.Members) = Takes (Id ∷ []) (λ head. says.Operation (op.Members head))
form (keyword.Outside outside.Root) = Takes (Number ∷ []) (λ size. says.Operation (op.Root size))
form (keyword.Outside outside.RootSize) = Takes [] (says.Operation op.RootSize)

-- ---- what a line says

abbrev pub said_by : Context → (kinds : List Kind) → Says kinds → List (List ℕ) → Option Statement
said_by context [] says [] = Some says
said_by context [] says (word ∷ words) = None
said_by context (kind ∷ kinds) says [] = None
said_by context (kind ∷ kinds) says (word ∷ words) = option_and_then (λ value. said_by context kinds (says value) words) (value_of context kind word)

abbrev pub said_in : Context → Form → List (List ℕ) → Option Statement
said_in context (Takes kinds says) operands = said_by context kinds says operands
said_in context (TakesWants says) operands = Some (says (filter_map (want_of context) operands))

-- what the operands behind a first word say in their place
abbrev pub statement_of : Context → Keyword → List (List ℕ) → Option Statement
statement_of context keyword operands = said_in context (form keyword) operands

-- ---- why a line is bad for its operands

-- each of the following: the word is right for its kind, as far as the reason goes
abbrev pub has_number : Kind → List ℕ → Bool
has_number Lane word = is_number word
has_number Number word = is_number word
has_number Length word = is_size word
has_number Errnum word = is_errnum word
has_number kind word = true

abbrev pub has_hex : Kind → List ℕ → Bool
has_hex Bytes word = is_hex word
has_hex kind word = true

abbrev pub has_letter : Context → Kind → List ℕ → Bool
has_letter context Letter word = is_letter word
has_letter context Id word = is_id context word
has_letter context Dest word = is_dest context word
has_letter context Side word = is_side word
has_letter context kind word = true

abbrev pub has_lane_number : Kind → List ℕ → Bool
has_lane_number Lane word = is_lane word
has_lane_number kind word = true

-- so are all words
abbrev pub all_right : (Kind → List ℕ → Bool) → List Kind → List (List ℕ) → Bool
all_right right (kind ∷ kinds) (word ∷ words) = right kind word && all_right right kinds words
all_right right kinds words = true

-- the tests of a line's operands, each with its reason, in order
abbrev pub form_tests : Context → Form → List (List ℕ) → List (Bool × Why)
form_tests context (Takes kinds says) operands =
    (length operands == length kinds, why.Count)
    ∷ (all_right has_number kinds operands, why.Number)
    ∷ (all_right has_hex kinds operands, why.Hex)
    ∷ (all_right (has_letter context) kinds operands, why.Letter)
    ∷ (all_right has_lane_number kinds operands, why.LaneNumber)
    ∷ []
form_tests context (TakesWants says) operands = (list_all (is_want context) operands, why.Letter) ∷ []
