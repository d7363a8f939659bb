use Rattle.omny_audit.proofs.traced.write_fault.Goals as goal

pub returns-in-Repeated : goal.returns-in-Repeated
returns-in-Repeated c = rw c.in-Repeated.is c.write-in-Repeated.ensures.bytes

pub returns-in-NoLine : goal.returns-in-NoLine
returns-in-NoLine c = rw c.in-NoLine.is c.write-in-NoLine.ensures.bytes
