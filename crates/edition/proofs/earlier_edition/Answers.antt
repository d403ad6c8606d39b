use Rattle.std.proofs.Common.{Decides}
use Rattle.std.proofs.lemmas.Bool.Decides.{Decides-at}
use Rattle.schema.specs.Reading.{dictionary_of}
use Rattle.schema.specs.Editions.{EarlierEdition}
use Rattle.schema.proofs.Exact.{passes_exactly}
use Rattle.schema.proofs.EditionLaws.{shows_the_same}
use Rattle.schema.proofs.EditionsAgree.{editions_agree}
use Rattle.edition.specs.Earlier.{is_earlier}
use Rattle.edition.proofs.Deciding.{earlier_decides}
use Rattle.edition.proofs.earlier_edition.Goals as goal

pub returns : goal.returns
returns c =
    let e = c.args.earlier.now in
    let d = c.args.later.now in
    let decided : Decides c.is_earlier.result (EarlierEdition (dictionary_of e) (dictionary_of d)) = Decides-at c.is_earlier.result (is_earlier e d) c.is_earlier.ensures (earlier_decides e d) in
    record {
      decides = decided;
      shows = λ h u l. shows_the_same (dictionary_of e) (dictionary_of d) (decided.0 h) u l;
      agree = λ known. editions_agree known (passes_exactly known);
    }
