use Rattle.form.proofs.open.fn.OpenForm.drop.take.Goals as goal

pub returns : goal.returns
returns g c = c.drop_entry.ensures (g.L.TypeLibrary.known c.args.on.now.library.now)
