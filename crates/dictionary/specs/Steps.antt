-- The verdicts on one template and on one line, as the loops take them one by one. Assumes nothing.
use Rattle.std.specs.Prelude.{ℕ, ◌+◌, Bool, ◌&&◌, List, drop, Ok, Err, Result, nat_le}
use Rattle.wire.specs.declared.refusal.Reason.TheVariants as reason
use Rattle.wire.specs.declared.refusal.Refusal.{Refusal}
use Rattle.wire.specs.Refusals.{bind}
use Rattle.types.specs.Kinds.{Known}
use Rattle.schema.specs.Verdicts.{Verdict, rule, ◌then◌}
use Rattle.schema.specs.Lines.{Line, lines}
use Rattle.schema.specs.Sections.{Section, sections}
use Rattle.schema.specs.Shape.{lines_shape, nothing_above, sections_shape}
use Rattle.schema.specs.Reading.{version_of, sections_of}
use Rattle.schema.specs.Geometry.{Ground, sections_geometry, since_fits, line_verdict, ground_past}
use Rattle.dictionary.specs.declared.geometry.Ground.{Ground as CodeGround}

abbrev pub section_shape : ℕ → ℕ → Section → Verdict
section_shape least p t =
    rule (nat_le least t.number) reason.LineName p 0
    then lines_shape nothing_above (p + 8) (lines t.body)

abbrev pub line_ground : Known → ℕ → Ground → ℕ → Line → Result Ground Refusal
line_ground known version g p l = bind (line_verdict known version g p l) (λ _. Ok (ground_past known g l))

-- the ground that a ground of the code is
abbrev pub grounded : CodeGround → Ground
grounded g = record { size = g.size; taken = g.taken; since = g.since; part_since = g.part_since }

abbrev pub shown_ground : Result CodeGround Refusal → Result Ground Refusal
shown_ground (Ok g) = Ok (grounded g)
shown_ground (Err e) = Err e

abbrev pub placed : ℕ → Ground → ℕ → ℕ → ℕ → Bool
placed version g offset end since = (nat_le g.taken offset && nat_le end g.size) && since_fits version g.since since

abbrev pub longest_within : ℕ → Bool
longest_within n = nat_le 1 n && nat_le n 254

abbrev pub data_ground : ℕ → Ground → ℕ → ℕ → ℕ → ℕ → Result Ground Refusal
data_ground version g p tag since longest =
    bind (rule (longest_within longest) reason.UnknownType p tag then rule (since_fits version g.part_since since) reason.LineGeometry p tag)
    (λ _. Ok (record { size = g.size; taken = g.taken; since = g.since; part_since = since }))

-- the two rounds over a dictionary's templates
abbrev pub rounds : Known → List ℕ → Verdict
rounds known s =
    sections_shape 0 7 (sections (drop 7 s))
    then sections_geometry known (version_of s) 7 (sections_of s)
