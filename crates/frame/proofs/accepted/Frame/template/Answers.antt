use Rattle.std.proofs.Common.{Some, Ok, Err, Option, Result, sym, ap, ◌∙◌, subst, ap₂}
use Rattle.std.proofs.lemmas.Result.{err_from_is_err_and}
use Rattle.wire.specs.declared.refusal.Refusal.{Refusal}
use Rattle.wire.specs.Refusals.{bind}
use Rattle.schema.specs.Verdicts.{Verdict}
use Rattle.schema.specs.Geometry.{section_geometry}
use Rattle.schema.specs.Reading.{version_of, sections_of}
use Rattle.schema.specs.Sections.{Section}
use Rattle.schema.specs.Finding.{section_at}
use Rattle.dictionary.specs.Found.{placed_section}
use Rattle.frame.specs.Templates.{shown_template, passed, Short}
use Rattle.frame.proofs.Placed.{within}
use Rattle.frame.proofs.accepted.Frame.template.Goals as goal

pub returns-in_default : goal.returns-in_default
returns-in_default g c =
    let known = g.L.TypeLibrary.known c.args.library.now in
    let s = c.args.self.now.dictionary.now in
    record {
      value =
          ap (passed known (version_of s))
          (c.in_default.ensures.value ∙ ap₂ (λ n u. section_at n u 7 (sections_of s)) c.stated_at-number.ensures c.version.ensures);
      short = tt;
    }

pub returns-in_err-check_geometry : goal.returns-in_err-check_geometry
returns-in_err-check_geometry g c =
    let known = g.L.TypeLibrary.known c.args.library.now in
    let s = c.args.self.now.dictionary.now in
    let found = placed_section c.in-Some.found in
    let then : Unit {0} → Result (Option Section) Refusal = λ _. Ok (Some found.section) in
    let refused : Refusal → Result (Option Section) Refusal = λ e. Err e in
    let p = err_from_is_err_and c.from_residual.result c.from_residual.ensures.1 in
    record {
      value =
          ap shown_template p.1
          ∙ ap refused p.2
          ∙ ap (λ (v : Verdict). bind v then) (sym c.in_err-check_geometry.was ∙ c.check_geometry.ensures ∙ ap (λ v. section_geometry known v found.place found.section) c.number_at.ensures)
          ∙ ap (passed known (version_of s))
          (c.in-Some.ensures.value ∙ ap₂ (λ n u. section_at n u 7 (sections_of s)) c.stated_at-number.ensures c.version.ensures);
      short = subst Short (sym p.1) tt;
    }

pub returns : goal.returns
returns g c =
    let known = g.L.TypeLibrary.known c.args.library.now in
    let s = c.args.self.now.dictionary.now in
    let found = placed_section c.in-Some.found in
    let then : Unit {0} → Result (Option Section) Refusal = λ _. Ok (Some found.section) in
    record {
      value =
          ap (λ (v : Verdict). bind v then) (sym c.in_ok-check_geometry.was ∙ c.check_geometry.ensures ∙ ap (λ v. section_geometry known v found.place found.section) c.number_at.ensures)
          ∙ ap (passed known (version_of s))
          (c.in-Some.ensures.value ∙ ap₂ (λ n u. section_at n u 7 (sections_of s)) c.stated_at-number.ensures c.version.ensures);
      short = (within c.stated_at-number.result c.version.result s c.seen.ensures found c.in-Some.ensures.value).1;
    }
