-- Which errors of SQL are a lack of memory.
use Rattle.sqlite.specs.declared.error.Error.{Error}
use Rattle.sqlite.specs.declared.error.Error.TheVariants.{SqliteFailure}
use Rattle.sqlite.specs.declared.error.ErrorCode.TheVariants as code
use Rattle.sql_keeper.specs.declared.fault.SqlFault.{SqlFault}
use Rattle.sql_keeper.specs.declared.fault.SqlFault.TheVariants.{Refused, OutOfMemory}

-- out of memory, or any other reason
abbrev pub fault_of : Error → SqlFault
fault_of (SqliteFailure code.OutOfMemory) = OutOfMemory
fault_of _ = Refused
