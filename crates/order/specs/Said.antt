-- What a command says, and what is printed about its answer. Assumes nothing.
use Rattle.std.specs.Prelude.{ℕ, List, [], Some, None, Option}
use Rattle.types.specs.Meanings.{Meaning, unsigned, signed, decimal, text, investor}
use Rattle.calls.specs.Calls.{Call, begin, fill, set, clear, append, remove, write, close, reopen}
use Rattle.replay.specs.declared.asked.Answer.{Answer}
use Rattle.replay.specs.declared.asked.Answer.TheVariants as answer
use Rattle.order.specs.declared.command.Command.{Command}
use Rattle.order.specs.declared.command.Command.TheVariants as command
use Rattle.order.specs.declared.command.Given.{Given}
use Rattle.order.specs.declared.command.Given.TheVariants as given
use Rattle.order.specs.declared.shown.Line.{Line}
use Rattle.order.specs.declared.shown.Line.TheVariants as line

-- the meaning of a value, with the bytes that its digits are
abbrev pub given_meaning : Given → List ℕ → Meaning
given_meaning (given.Unsigned n) bytes = unsigned n
given_meaning (given.Signed z) bytes = signed z
given_meaning (given.Decimal mantissa decimals) bytes = decimal mantissa decimals
given_meaning (given.Text digits) bytes = text bytes
given_meaning (given.Investor prefix document) bytes = investor prefix document

-- the call that a command is, with the bytes that its digits are; none where it is about the buffer
abbrev pub said_call : Command → List ℕ → Option Call
said_call (command.Zeros n) bytes = None
said_call (command.Bytes digits) bytes = None
said_call (command.Open template version) bytes = Some (begin template version)
said_call (command.Set group entry tag value) bytes = Some (fill (set group entry tag (given_meaning value bytes)))
said_call (command.Clear group entry tag) bytes = Some (fill (clear group entry tag))
said_call (command.Append group) bytes = Some (fill (append group))
said_call (command.Drop group) bytes = Some (fill (remove group))
said_call (command.Write tag digits) bytes = Some (fill (write tag bytes))
said_call command.Close bytes = Some close
said_call command.Reopen bytes = Some reopen
said_call command.Show bytes = None

-- the digits of a value and of a command
abbrev pub value_digits : Given → List ℕ
value_digits (given.Unsigned n) = []
value_digits (given.Signed z) = []
value_digits (given.Decimal mantissa decimals) = []
value_digits (given.Text digits) = digits.now
value_digits (given.Investor prefix document) = []

abbrev pub command_digits : Command → List ℕ
command_digits (command.Zeros n) = []
command_digits (command.Bytes digits) = digits.now
command_digits (command.Open template version) = []
command_digits (command.Set group entry tag value) = value_digits value
command_digits (command.Clear group entry tag) = []
command_digits (command.Append group) = []
command_digits (command.Drop group) = []
command_digits (command.Write tag digits) = digits.now
command_digits command.Close = []
command_digits command.Reopen = []
command_digits command.Show = []

-- the line of an answer
abbrev pub line_of : Answer → Line
line_of answer.Accepted = line.Accepted
line_of (answer.Refused e) = line.Refused e
line_of answer.OutOfTurn = line.OutOfTurn
