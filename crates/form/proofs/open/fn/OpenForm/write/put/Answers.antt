use Rattle.form.proofs.open.fn.OpenForm.write.put.Goals as goal

pub returns : goal.returns
returns g c = c.write_data.ensures (g.L.TypeLibrary.known c.args.on.now.library.now)
