-- How a line is written. Assumes nothing.
use Rattle.std.specs.Prelude.{ℕ, List, [], ◌∷◌, ◌++◌}
use Rattle.wire.specs.Refusals.{number_of}
use Rattle.printing.specs.Written.{numbers, hex}
use Rattle.order.specs.declared.shown.Line.{Line}
use Rattle.order.specs.declared.shown.Line.TheVariants as line

-- a line: `D`, `ok`, `refused`, `out of turn`, `frame`, `buffer` or `bad line`, and what it tells
abbrev pub written : Line → List ℕ
written (line.Dictionary e) = 68 ∷ numbers (e.place ∷ number_of e.reason ∷ [])
written line.Accepted = 111 ∷ 107 ∷ []
written (line.Refused e) = (114 ∷ 101 ∷ 102 ∷ 117 ∷ 115 ∷ 101 ∷ 100 ∷ []) ++ numbers (number_of e.reason ∷ e.place ∷ e.tag ∷ [])
written line.OutOfTurn = 111 ∷ 117 ∷ 116 ∷ 32 ∷ 111 ∷ 102 ∷ 32 ∷ 116 ∷ 117 ∷ 114 ∷ 110 ∷ []
written (line.Frame s) = 102 ∷ 114 ∷ 97 ∷ 109 ∷ 101 ∷ 32 ∷ hex s.now
written (line.Buffer s) = 98 ∷ 117 ∷ 102 ∷ 102 ∷ 101 ∷ 114 ∷ 32 ∷ hex s.now
written (line.Bad n) = (98 ∷ 97 ∷ 100 ∷ 32 ∷ 108 ∷ 105 ∷ 110 ∷ 101 ∷ []) ++ numbers (n ∷ [])
