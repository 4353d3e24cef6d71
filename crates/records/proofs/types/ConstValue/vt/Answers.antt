use Rattle.records.specs.Types.{vt_of}
use Rattle.records.specs.declared.types.ConstValue.{ConstValue}
use mathlib.Core.Path.{◌≡◌, ap, sym}
use Rattle.records.proofs.types.ConstValue.vt.Goals as goal

of : {v w : ConstValue} → v ≡ w → vt_of w ≡ vt_of v
of e = ap vt_of (sym e)

pub returns-in-Empty : goal.returns-in-Empty
unfolding vt_of
returns-in-Empty c = of c.in-Empty.is

pub returns-in-Null : goal.returns-in-Null
unfolding vt_of
returns-in-Null c = of c.in-Null.is

pub returns-in-I2 : goal.returns-in-I2
unfolding vt_of
returns-in-I2 c = of c.in-I2.is

pub returns-in-I4 : goal.returns-in-I4
unfolding vt_of
returns-in-I4 c = of c.in-I4.is

pub returns-in-R4 : goal.returns-in-R4
unfolding vt_of
returns-in-R4 c = of c.in-R4.is

pub returns-in-R4Nan : goal.returns-in-R4Nan
unfolding vt_of
returns-in-R4Nan c = of c.in-R4Nan.is

pub returns-in-R8 : goal.returns-in-R8
unfolding vt_of
returns-in-R8 c = of c.in-R8.is

pub returns-in-R8Nan : goal.returns-in-R8Nan
unfolding vt_of
returns-in-R8Nan c = of c.in-R8Nan.is

pub returns-in-Cy : goal.returns-in-Cy
unfolding vt_of
returns-in-Cy c = of c.in-Cy.is

pub returns-in-Date : goal.returns-in-Date
unfolding vt_of
returns-in-Date c = of c.in-Date.is

pub returns-in-DateNan : goal.returns-in-DateNan
unfolding vt_of
returns-in-DateNan c = of c.in-DateNan.is

pub returns-in-Bstr : goal.returns-in-Bstr
unfolding vt_of
returns-in-Bstr c = of c.in-Bstr.is

pub returns-in-NullBstr : goal.returns-in-NullBstr
unfolding vt_of
returns-in-NullBstr c = of c.in-NullBstr.is

pub returns-in-Error : goal.returns-in-Error
unfolding vt_of
returns-in-Error c = of c.in-Error.is

pub returns-in-Bool : goal.returns-in-Bool
unfolding vt_of
returns-in-Bool c = of c.in-Bool.is

pub returns-in-Decimal : goal.returns-in-Decimal
unfolding vt_of
returns-in-Decimal c = of c.in-Decimal.is

pub returns-in-I1 : goal.returns-in-I1
unfolding vt_of
returns-in-I1 c = of c.in-I1.is

pub returns-in-UI1 : goal.returns-in-UI1
unfolding vt_of
returns-in-UI1 c = of c.in-UI1.is

pub returns-in-UI2 : goal.returns-in-UI2
unfolding vt_of
returns-in-UI2 c = of c.in-UI2.is

pub returns-in-UI4 : goal.returns-in-UI4
unfolding vt_of
returns-in-UI4 c = of c.in-UI4.is

pub returns-in-I8 : goal.returns-in-I8
unfolding vt_of
returns-in-I8 c = of c.in-I8.is

pub returns-in-UI8 : goal.returns-in-UI8
unfolding vt_of
returns-in-UI8 c = of c.in-UI8.is

pub returns-in-Int : goal.returns-in-Int
unfolding vt_of
returns-in-Int c = of c.in-Int.is

pub returns-in-UInt : goal.returns-in-UInt
unfolding vt_of
returns-in-UInt c = of c.in-UInt.is

pub returns-in-Void : goal.returns-in-Void
unfolding vt_of
returns-in-Void c = of c.in-Void.is

pub returns-in-Hresult : goal.returns-in-Hresult
unfolding vt_of
returns-in-Hresult c = of c.in-Hresult.is

pub returns-in-Filetime : goal.returns-in-Filetime
unfolding vt_of
returns-in-Filetime c = of c.in-Filetime.is

pub returns-in-Raw : goal.returns-in-Raw
unfolding vt_of
returns-in-Raw c = of c.in-Raw.is
