-- Which texts are which line of a script.
use Rattle.std.specs.Prelude.{◌≡◌, ◌≢◌, ℕ, ◌≤◌, ◌<◌, ◌^◌, ◌⊎◌, ◌==◌, ◌||◌, List, ◌∷◌, ◌++◌, length, codes, Option, None, Some, slice_get, All}
use Rattle.std.specs.Borrow.{Bor}
use Rattle.std.specs.List.{AllPass}
use Rattle.std.specs.Char.{is_ascii_alphabetic}
use Rattle.std.specs.Str.{IsUtf8}
use Rattle.std.specs.Str.Parse.{IsNumeral, digits_value}
use Rattle.script.specs.declared.script_line.Key.{Key}
use Rattle.script.specs.declared.script_line.Key.TheVariants.{Capacity, Clients, Bytes, Log, LogBytes, Saved, Keep, FirstOffset}
use Rattle.script.specs.declared.script_line.Notice.{Notice as NoticeWord}
use Rattle.script.specs.declared.script_line.Notice.TheVariants as notice
use Rattle.script.specs.declared.script_line.ScriptLine.{ScriptLine}
use Rattle.script.specs.declared.script_line.ScriptLine.TheVariants.{Config, At, Open, OpenSocket, Text, Frame, Bytes as ByteFrame, Notice, Take, Members, Totals, Seal, Sweep, Nothing, Bad}

-- the space between the words of a line
abbrev pub SPACE : ℕ
SPACE = 32

-- how many entries a take hands out at most that names no number
abbrev pub MOST_TAKEN : ℕ
MOST_TAKEN = 64

-- a client's name: one to sixteen ASCII letters
pub record IsName (name : List ℕ) : Type 0 where
  pub some : 1 ≤ length name
  pub few : length name ≤ 16
  pub letters : AllPass is_ascii_alphabetic name

-- decimal digits alone, with a value that fits 64 bits
pub record IsNumber (text : List ℕ) (number : ℕ) : Type 0 where
  pub digits : IsNumeral 10 text
  pub value : number ≡ digits_value 10 text
  pub fits : number < 2 ^ 64

-- no space stands in it
abbrev pub IsWord : List ℕ → Type 0
IsWord word = All (λ byte. byte ≢ SPACE) word

-- nothing but spaces and tabs
abbrev pub IsBlank : List ℕ → Type 0
IsBlank text = AllPass (λ byte. byte == SPACE || byte == 9) text

-- it begins with #
abbrev pub IsComment : List ℕ → Type 0
IsComment text = slice_get text 0 ≡ Some 35

-- a line that asks for nothing
abbrev pub IsSilent : List ℕ → Type 0
IsSilent text = IsComment text ⊎ IsBlank text

-- the word for a limit
abbrev pub key_text : Key → List ℕ
key_text Capacity = codes "capacity"
key_text Clients = codes "clients"
key_text Bytes = codes "bytes"
key_text Log = codes "log"
key_text LogBytes = codes "log-bytes"
key_text Saved = codes "saved"
key_text Keep = codes "keep"
key_text FirstOffset = codes "first-offset"

-- the word that says this of a client
abbrev pub notice_text : NoticeWord → List ℕ
notice_text notice.Get = codes "get"
notice_text notice.Unget = codes "unget"
notice_text notice.Probe = codes "probe"
notice_text notice.Upgrade = codes "upgrade"
notice_text notice.Unprobe = codes "unprobe"
notice_text notice.Lost = codes "lost"
notice_text notice.Tick = codes "tick"

-- the name of the client that the line is of, if it is of one that was opened
abbrev pub name_in : ScriptLine → Option (List ℕ)
name_in (Text name rest) = Some name.now
name_in (Frame name rest) = Some name.now
name_in (ByteFrame name hex) = Some name.now
name_in (Notice word name) = Some name.now
name_in (Take name most) = Some name.now
name_in _ = None

-- the line takes so many entries: 64, or as many as it names, but not 0
abbrev pub SpellsTake : List ℕ → (name : List ℕ) → (most : ℕ) → Type 0
SpellsTake text name most = ((text ≡ codes "take" ++ SPACE ∷ name) × (most ≡ MOST_TAKEN))
    ⊎ ((digits : List ℕ) × IsNumber digits most × (1 ≤ most) × (text ≡ codes "take" ++ SPACE ∷ name ++ SPACE ∷ digits))

-- the text spells this line, which is no bad one
abbrev pub Spells : List ℕ → ScriptLine → Type 0
Spells text (Config key number) = (digits : List ℕ) × IsNumber digits number × (text ≡ codes "config" ++ SPACE ∷ key_text key ++ SPACE ∷ digits)
Spells text (At moment) = (digits : List ℕ) × IsNumber digits moment × (text ≡ codes "at" ++ SPACE ∷ digits)
Spells text (Open name) = IsName name.now × (text ≡ codes "open" ++ SPACE ∷ name.now)
Spells text (OpenSocket name) = IsName name.now × (text ≡ codes "open" ++ SPACE ∷ name.now ++ SPACE ∷ codes "socket")
Spells text (Text name rest) = IsName name.now × (text ≡ codes "text" ++ SPACE ∷ name.now ++ SPACE ∷ rest.now)
Spells text (Frame name rest) = IsName name.now × (text ≡ codes "frame" ++ SPACE ∷ name.now ++ SPACE ∷ rest.now)
Spells text (ByteFrame name hex) = IsName name.now × (text ≡ codes "bytes" ++ SPACE ∷ name.now ++ SPACE ∷ hex.now)
Spells text (Notice word name) = IsName name.now × (text ≡ notice_text word ++ SPACE ∷ name.now)
Spells text (Take name most) = IsName name.now × SpellsTake text name.now most
Spells text (Members space room) = IsWord space.now × (text ≡ codes "members" ++ SPACE ∷ space.now ++ SPACE ∷ room.now)
Spells text Totals = text ≡ codes "totals"
Spells text Seal = text ≡ codes "seal"
Spells text Sweep = text ≡ codes "sweep"
Spells text Nothing = IsSilent text
Spells text Bad = ⊥

-- the text spells no line about the server as a whole
pub record IsNoServerLine (text : List ℕ) : Type 0 where
  pub limit : (key : Key) (number : ℕ) → ¬ Spells text (Config key number)
  pub moment : (moment : ℕ) → ¬ Spells text (At moment)
  pub members : (space room : Bor (List ℕ)) → ¬ Spells text (Members space room)
  pub totals : ¬ Spells text Totals
  pub seal : ¬ Spells text Seal
  pub sweep : ¬ Spells text Sweep

-- the text spells no line that opens a client
pub record IsNoOpenLine (text : List ℕ) : Type 0 where
  pub polling : (name : Bor (List ℕ)) → ¬ Spells text (Open name)
  pub socket : (name : Bor (List ℕ)) → ¬ Spells text (OpenSocket name)

-- the text spells no line that takes what waits for a client
abbrev pub IsNoTakeLine : List ℕ → Type 0
IsNoTakeLine text = (name : Bor (List ℕ)) (most : ℕ) → ¬ Spells text (Take name most)

-- the text spells no line that says something of a client by one word
abbrev pub IsNoNoticeLine : List ℕ → Type 0
IsNoNoticeLine text = (word : NoticeWord) (name : Bor (List ℕ)) → ¬ Spells text (Notice word name)

-- the text spells no line by which a client sends something
pub record IsNoSendingLine (text : List ℕ) : Type 0 where
  pub posting : (name rest : Bor (List ℕ)) → ¬ Spells text (Text name rest)
  pub framing : (name rest : Bor (List ℕ)) → ¬ Spells text (Frame name rest)
  pub byte_framing : (name hex : Bor (List ℕ)) → ¬ Spells text (ByteFrame name hex)

-- the text spells no line about one client
pub record IsNoClientLine (text : List ℕ) : Type 0 where
  pub opening : IsNoOpenLine text
  pub taking : IsNoTakeLine text
  pub noticing : IsNoNoticeLine text
  pub sending : IsNoSendingLine text

-- what a text is read as: the line that it spells, or a bad line where it spells none
abbrev pub ReadsAs : List ℕ → ScriptLine → Type 0
ReadsAs text Bad = (line : ScriptLine) → ¬ Spells text line
ReadsAs text line = Spells text line

-- what a line is read as: in UTF-8, as its text, and else as a bad line
abbrev pub IsReadAs : List ℕ → ScriptLine → Type 0
IsReadAs bytes Bad = IsUtf8 bytes → ReadsAs bytes Bad
IsReadAs bytes line = IsUtf8 bytes × ReadsAs bytes line
