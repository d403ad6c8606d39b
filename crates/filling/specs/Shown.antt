-- What the code answers, in the words of the definitions. Assumes nothing.
use Rattle.std.specs.Prelude.{Ok, Err, Result}
use Rattle.wire.specs.declared.refusal.Refusal.{Refusal}
use Rattle.schema.specs.Sections.{Section}
use Rattle.dictionary.specs.declared.section.Section.{Section as CodeSection}
use Rattle.dictionary.specs.Shown.{shown_section}
use Rattle.calls.specs.Calls.{Numbers}
use Rattle.filling.specs.declared.working.Numbers.{Numbers as CodeNumbers}

-- the plain numbers of a form
abbrev pub plain_numbers : CodeNumbers → Numbers
plain_numbers n = record { template = n.template; version = n.version; length = n.length }

abbrev pub shown_working : Result CodeSection Refusal → Result Section Refusal
shown_working (Ok t) = Ok (shown_section t)
shown_working (Err e) = Err e
