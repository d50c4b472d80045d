pub mod WalkLaws
pub mod FrontLaws
pub mod CallLaws
pub mod PairingLaws
pub mod RisingLaws
pub mod ReportLaws
pub mod Claim
