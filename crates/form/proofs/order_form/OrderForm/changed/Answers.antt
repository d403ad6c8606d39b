use Rattle.form.proofs.Filled.{changed, not_changed}
use Rattle.form.proofs.order_form.OrderForm.changed.Goals as goal

pub returns-in-Ok : goal.returns-in-Ok
returns-in-Ok g c known d o buffer says same =
    changed known d buffer c.args.self c.into_state.result o c.args.checked c.into_state.ensures same says c.in-Ok.is

pub returns-in-Err : goal.returns-in-Err
returns-in-Err g c known d o buffer says same =
    not_changed known d buffer _ c.args.self o c.args.checked c.in-Err.e says c.in-Err.is
