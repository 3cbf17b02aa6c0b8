-- A walk over a head's lines, byte by byte, up to the empty one.
use Rattle.std.specs.Prelude.{◌==◌, ℕ, List, cond, fold}
use Rattle.http_edge.specs.Reading.{is_text}
use Rattle.http_edge.specs.declared.head.LineState.{LineState}
use Rattle.http_edge.specs.declared.head.LineState.TheVariants.{Blank, Text, Ended, Return, Empty}

-- where one byte more leads
abbrev pub next : LineState → ℕ → LineState
next Blank b = cond (is_text b) Text Blank
next Text b = cond (b == 10) Ended Text
next Ended b = cond (b == 10) Empty (cond (b == 13) Return Text)
next Return b = cond (b == 10) Empty Text
next Empty b = Empty

-- where all of the bytes lead
abbrev pub walk : LineState → List ℕ → LineState
walk line bytes = fold next line bytes
